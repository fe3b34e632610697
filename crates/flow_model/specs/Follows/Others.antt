-- What moves that are not a call's own change of it: beginnings, steps of other calls, a Frame of it and Collect.
use Rattle.std.specs.Prelude.{◌≡◌, ℕ, Bool, true, false, ◌&&◌, ◌||◌, not, ◌==◌, List, [], ◌∷◌, Option, Some, None}
use Rattle.signal_graph.specs.Graph.{Graph, is_in}
use Rattle.node_versions.specs.Entries.{at, is_mark}
use Rattle.node_versions.specs.declared.entry.State.TheVariants as state
use Rattle.flow_model.specs.declared.step.Step.{Step}
use Rattle.flow_model.specs.declared.step.Step.TheVariants.{Frame, Discover}
use Rattle.flow_model.specs.Machine.State.{Core, LiveCall, call, entries, outs, wants, opens}
use Rattle.flow_model.specs.Machine.Words.{is_some_of, active_outs}
use Rattle.flow_model.specs.Machine.Changes.{enter, raise, ensure_mark, opened, is_told, tell_call}
use Rattle.flow_model.specs.Machine.Keys.{version_of_step, is_own_step, list_of_step}
use Rattle.flow_model.specs.Machine.Histories.{Move, Begin, Make, after_move}

-- The step is an own step of the call; so is the move.
abbrev pub is_own_of : ℕ → Step → Bool
is_own_of t step = is_own_step step && is_some_of (version_of_step step) t

-- The move is an own step of the call; a beginning is none of a call that lives.
abbrev pub is_own_move : ℕ → Move → Bool
is_own_move t (Begin caller call) = false
is_own_move t (Make step) = is_own_of t step

-- the caller whose own move it is: that of a beginning, or of the live call of an own step; 0 for any other
abbrev pub caller_of_version : Core → Option ℕ → ℕ
caller_of_version s None = 0
caller_of_version s (Some t) = (call s t).caller

-- the caller whose own move it is
abbrev pub caller_of : Core → Move → ℕ
caller_of s (Begin caller call) = caller
caller_of s (Make step) = elim (is_own_step step) [ true ↦ caller_of_version s (version_of_step step) | false ↦ 0 ]

-- None of the moves that follow on a state is an own move of the caller.
abbrev pub none_by : Graph → ℕ → Core → List Move → Bool
none_by graph k s [] = true
none_by graph k s (move ∷ moves) = not (caller_of s move == k) && none_by graph k (after_move graph s move) moves

-- the state in which the call's Frame stands at the node, and nothing else is done yet
abbrev pub with_frame : Core → ℕ → ℕ → Core
with_frame s t n = elim (at is_mark (entries s n) t) [ true ↦ raise s t n | false ↦ enter s t n state.Frame ]

-- A live call after a step that is not its own: a Frame opens the node for it, and Discover of another call may tell it.
abbrev pub after_others : Graph → Core → Step → LiveCall → LiveCall
after_others graph s (Frame u n) c = elim (c.version == u) [ true ↦ opened n (active_outs graph (with_frame s u n) u n) c | false ↦ c ]
after_others graph s (Discover u n m) c = tell_call (entries (ensure_mark s u m) m) u n c
after_others graph s step c = c

-- the same after a move; a beginning changes no live call
abbrev pub after_others_move : Graph → Core → Move → LiveCall → LiveCall
after_others_move graph s (Begin caller call) c = c
after_others_move graph s (Make step) c = after_others graph s step c

-- What stays of a live call: all but what it wants and what is open for it.
pub record IsKept (c d : LiveCall) : Type 0 where
  pub caller : d.caller ≡ c.caller
  pub version : d.version ≡ c.version
  pub slot : d.slot ≡ c.slot
  pub executing : d.executing ≡ c.executing
  pub call : d.call ≡ c.call
  pub sets : d.sets ≡ c.sets
  pub looks : d.looks ≡ c.looks
  pub changed : d.changed ≡ c.changed
  pub evaluated : d.evaluated ≡ c.evaluated
  pub looked : d.looked ≡ c.looked

-- The move opens the node for the call: it is a Frame of the call there.
abbrev pub is_opened_by : ℕ → Move → ℕ → Bool
is_opened_by t (Make (Frame u n)) m = (t == u) && (m == n)
is_opened_by t move m = false

-- The move gives the call the node to frame: a Frame of the call gives the active outs that it has not open, and Discover of
-- another call gives its choose node to whom it tells.
abbrev pub is_given_by : Graph → Core → ℕ → Move → ℕ → Bool
is_given_by graph s t (Make (Frame u n)) m = (t == u)
    && (is_in m (active_outs graph (with_frame s u n) u n) && not ((m == n) || opens s t m))
is_given_by graph s t (Make (Discover u n i)) m = (m == n) && is_told (entries (ensure_mark s u i) i) u n (call s t)
is_given_by graph s t move m = false

-- What is open for a call and wanted by it in one state, after a move that led there from another one.
pub record IsGiven (graph : Graph) (s : Core) (move : Move) (q : Core) (t : ℕ) : Type 0 where
  pub opens : (m : ℕ) → opens q t m ≡ (opens s t m || is_opened_by t move m)
  pub wants : (m : ℕ) → wants q t m ≡ ((wants s t m && not (is_opened_by t move m)) || is_given_by graph s t move m)

-- the node whose list or out-edges a move changes
abbrev pub list_of : Move → Option ℕ
list_of (Begin caller call) = None
list_of (Make step) = list_of_step step

-- The node's list and out-edges are the same in two states.
pub record IsSameList (s q : Core) (n : ℕ) : Type 0 where
  pub entries : entries q n ≡ entries s n
  pub outs : outs q n ≡ outs s n
