-- A replay in its middle.
use Rattle.std.specs.Prelude.{◌≡◌, ℕ, suc, ◌-◌, ◌<◌, ◌≤◌, List, [], ◌∷◌, ◌++◌, length, map, Option, None, slice_index_or}
use Rattle.std.specs.List.{AllByRecursion}
use Rattle.script_tree.specs.declared.limits.TheConstants.{THREADS}
use Rattle.signal_graph.specs.declared.call.Call.{Call}
use Rattle.signal_graph.specs.declared.log.Why.{Why}
use Rattle.signal_graph.specs.Graph.{Graph}
use Rattle.flow_model.specs.Machine.Lists.{change_at}
use Rattle.flow_model.specs.Machine.State.{Core}
use Rattle.flow_model.specs.Machine.Schedules.{Thread, Play, no_thread, thread, goes_on, version_of, take_turn}
use Rattle.flow_model.specs.Follows.Callers.{IsWithin}

-- What is kept of a thread: the version of its live call beside the thread itself.
pub record Caller : Type 0 where
  pub live : Option ℕ
  pub thread : Thread

abbrev pub no_caller : Caller
no_caller = record { live = None; thread = no_thread }

-- the caller of a thread, which counts from 0 here
abbrev pub caller_at : List Caller → ℕ → Caller
caller_at callers i = slice_index_or callers i no_caller

-- their threads alone
abbrev pub threads_of : List Caller → List Thread
threads_of callers = map (λ (x : Caller). x.thread) callers

-- a thread that has begun none of its calls
abbrev pub new_caller : List Call → Caller
new_caller calls = record { live = None; thread = record { left = calls; number = 1; refused = [] } }

-- it has taken its next call, so that these are left
abbrev pub has_gone_on : Caller → List Call → Caller
has_gone_on x left = record x { thread = goes_on left x.thread }

-- its live call is another one, or none
abbrev pub lives : Caller → Option ℕ → Caller
lives x live = record x { live = live }

-- the call that it took last is refused; the number of its next call is one more than that call's
abbrev pub has_refused : Caller → ℕ → Why → Caller
has_refused x caller why = record x {
  thread = record x.thread { refused = x.thread.refused ++ record { caller = caller; number = x.thread.number - 1; why = why } ∷ [] };
}

-- What contracts see of a replay: its graph, and the play so far but for its moves, which nothing reads.
pub record Stage : Type 0 where
  pub graph : Graph
  pub core : Core
  pub threads : List Thread

abbrev pub stage_of : Graph → Play → Stage
stage_of graph play = record { graph = graph; core = play.core; threads = play.threads }

abbrev pub play_of : Stage → Play
play_of stage = record { moves = []; core = stage.core; threads = stage.threads }

-- What is kept of a thread is so in a state: its live call's version is there, and its calls set and look at no more than they may.
pub record IsCaller (k : ℕ) (s : Core) (x : Caller) : Type 0 where
  pub live : x.live ≡ version_of k s.calls
  pub within : AllByRecursion IsWithin x.thread.left

-- It is so of every thread.
pub record AreCallers (s : Core) (callers : List Caller) : Type 0 where
  pub many : length callers ≡ s.callers
  pub few : length callers ≤ THREADS
  pub each : (i : ℕ) → i < length callers → IsCaller (suc i) s (caller_at callers i)

-- A state and a thread become others by the thread's turn: in each play that has them, the turn makes just that.
pub record IsTurn (graph : Graph) (k : ℕ) (s : Core) (x : Thread) (q : Core) (y : Thread) : Type 0 where
  pub core : (play : Play) (i : ℕ) → k ≡ suc i → play.core ≡ s → thread play i ≡ x → (take_turn graph play i).core ≡ q
  pub threads : (play : Play) (i : ℕ) → k ≡ suc i → play.core ≡ s → thread play i ≡ x
      → (take_turn graph play i).threads ≡ change_at i (λ _. y) play.threads

-- No other caller has another live call than before.
pub record LeavesOthers (k : ℕ) (s q : Core) : Type 0 where
  pub callers : q.callers ≡ s.callers
  pub live : (j : ℕ) → (j ≡ k → ⊥) → version_of j q.calls ≡ version_of j s.calls
