-- The passes that a sweeper opens with, and what it is closed with.
use Rattle.std.specs.Prelude.{◌≡◌, ◌⊎◌, ℕ, zero, suc, ◌<◌, ◌≤◌, true, List, [], ◌∷◌}
use Rattle.std.specs.List.{AllByRecursion}
use Rattle.script_tree.specs.declared.value.Value.{Value}
use Rattle.signal_graph.specs.declared.log.Logged.{Logged}
use Rattle.signal_graph.specs.Graph.{Graph}
use Rattle.signal_graph.specs.Legal.{Legal, finals}
use Rattle.flow_model.specs.Machine.Histories.{Move, state, is_history}
use Rattle.flow_model.specs.Follows.Callers.{begun_by, logged_of}
use Rattle.caller_fronts.specs.Fronts.{IsLater}
use Rattle.caller_fronts.specs.Tokens.{Idle, IsIdle}

-- the callers from a number on, so many, which have seen nothing
abbrev pub fresh : ℕ → ℕ → List Idle
fresh from zero = []
fresh from (suc n) = record { caller = from; front = [] } ∷ fresh (suc from) n

-- The caller's pass is among them.
abbrev pub HasPass : ℕ → List Idle → Type 0
HasPass k [] = ⊥
HasPass k (pass ∷ passes) = (pass.caller ≡ k) ⊎ HasPass k passes

-- So is each caller's.
abbrev pub HasAllPasses : ℕ → List Idle → Type 0
HasAllPasses callers passes = (k : ℕ) → 0 < k → k ≤ callers → HasPass k passes

-- The moves are the front of one of the passes.
abbrev pub HasFront : List Move → List Idle → Type 0
HasFront moves [] = ⊥
HasFront moves (pass ∷ passes) = (pass.front ≡ moves) ⊎ HasFront moves passes

-- One history leads to the log: each pass has seen a beginning of it with all that is its caller's own, and one of them has seen all
-- of it, so it is the longest of their fronts. No call lives after it, and each caller's calls in the log are those of its pass, in
-- their order and with their versions. The log is legal, and the values are the one-thread machine's after it.
pub record Closes (graph : Graph) (callers limit : ℕ) (passes : List Idle) (log : List Logged) (values : List Value) : Type 0 where
  pub moves : List Move
  pub history : is_history graph callers limit moves ≡ true
  pub fronts : AllByRecursion (λ (p : Idle). IsLater graph callers limit p.caller p.front moves) passes
  pub longest : HasFront moves passes
  pub none_live : (state graph callers limit moves).calls ≡ []
  pub log_is : log ≡ (state graph callers limit moves).log
  pub own_calls : AllByRecursion (λ (p : Idle). logged_of p.caller log ≡ begun_by p.caller p.front) passes
  pub legal : Legal graph log
  pub finals : values ≡ finals graph log

-- Each pass has seen a beginning of the history with all that is its caller's own, and its caller is idle after the history.
abbrev pub Settles : Graph → ℕ → ℕ → List Idle → List Move → Type 0
Settles graph callers limit passes moves =
    AllByRecursion (λ (p : Idle). IsLater graph callers limit p.caller p.front moves × IsIdle graph callers limit p.caller moves) passes

-- The log and the values are those after a history with no live call.
pub record EndsAt (graph : Graph) (callers limit : ℕ) (moves : List Move) (log : List Logged) (values : List Value) : Type 0 where
  pub history : is_history graph callers limit moves ≡ true
  pub log_is : log ≡ (state graph callers limit moves).log
  pub legal : Legal graph log
  pub finals : values ≡ finals graph log
