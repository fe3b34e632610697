-- Histories: the moves from the opening state on, each allowed in the state before it.
use Rattle.std.specs.Prelude.{◌≡◌, ℕ, Bool, true, false, List, [], ◌∷◌, ◌++◌, map}
use Rattle.script_tree.specs.declared.value.Value.{Value}
use Rattle.signal_graph.specs.declared.call.Call.{Call}
use Rattle.signal_graph.specs.Graph.{Graph}
use Rattle.node_versions.specs.Entries.{value_of, state_of, last_done, value_at, value_before}
use Rattle.flow_model.specs.declared.step.Step.{Step}
use Rattle.flow_model.specs.declared.step.Step.TheVariants.{Gather, Evaluate}
use Rattle.flow_model.specs.Machine.State.{Core, opening, entries}
use Rattle.flow_model.specs.Machine.Steps.{can_begin, begin, allowed, apply}

-- A call begins, or a step is made.
pub data Move : Type 0 where
  Begin : (caller : ℕ) (call : Call) → Move
  Make : (step : Step) → Move

-- The move is allowed: the call can begin, or so can the step be made.
abbrev pub may : Graph → Core → Move → Bool
may graph s (Begin caller call) = can_begin graph s caller call
may graph s (Make step) = allowed graph s step

-- the state after a move
abbrev pub after_move : Graph → Core → Move → Core
after_move graph s (Begin caller call) = begin graph s caller call
after_move graph s (Make step) = apply graph s step

-- the state after moves, one after the other
abbrev pub after_moves : Graph → Core → List Move → Core
after_moves graph s [] = s
after_moves graph s (move ∷ moves) = after_moves graph (after_move graph s move) moves

-- Each is allowed in the state before it.
abbrev pub may_all : Graph → Core → List Move → Bool
may_all graph s [] = true
may_all graph s (move ∷ moves) = elim (may graph s move) [ true ↦ may_all graph (after_move graph s move) moves | false ↦ false ]

-- the state after a history, and whether a list of moves is one
abbrev pub state : Graph → ℕ → ℕ → List Move → Core
state graph callers limit moves = after_moves graph (opening graph callers limit) moves

-- The moves are a history from the opening state on.
abbrev pub is_history : Graph → ℕ → ℕ → List Move → Bool
is_history graph callers limit moves = may_all graph (opening graph callers limit) moves

-- the values of the last Dones, which the core gives in the end
abbrev pub last_values : Core → List Value
last_values s = map (λ c. value_of (state_of (last_done c.entries))) s.cells

-- Along the moves, a call has gathered the value of m for n: one of them is its Gather there, and the value is what the call
-- reads at m before it.
pub record HasGathered (graph : Graph) (callers limit : ℕ) (moves : List Move) (t n m : ℕ) (v : Value) : Type 0 where
  pub earlier : List Move
  pub later : List Move
  pub split : moves ≡ earlier ++ (Make (Gather t n m) ∷ later)
  pub read : v ≡ value_at (entries (state graph callers limit earlier) m) t

-- Along the moves, a call has evaluated a node: one of them is its Evaluate there. What a fold's script reads besides its inputs is
-- the node's value before the call.
pub record HasEvaluated (graph : Graph) (callers limit : ℕ) (moves : List Move) (t n : ℕ) (acc : Value) : Type 0 where
  pub earlier : List Move
  pub later : List Move
  pub split : moves ≡ earlier ++ (Make (Evaluate t n) ∷ later)
  pub read : acc ≡ value_before (entries (state graph callers limit earlier) n) t
