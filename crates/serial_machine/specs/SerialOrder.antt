-- The order of a run of all scripts one after the other.
use Rattle.std.specs.Prelude.{◌≡◌, ℕ, ◌+◌, ◌<◌, List, [], ◌∷◌, ◌++◌, length, map, take, slice_index_or}
use Rattle.std.specs.List.Sorted.{IsNonDecreasingBy}
use Rattle.script_tree.specs.declared.value.Value.{Value}
use Rattle.signal_graph.specs.declared.call.Call.{Call}
use Rattle.signal_graph.specs.declared.log.Logged.{Logged}
use Rattle.signal_graph.specs.declared.log.Refused.{Refused}
use Rattle.signal_graph.specs.Graph.{Graph}
use Rattle.signal_graph.specs.Legal.{Legal, finals}
use Rattle.call_log.specs.Made.{well_named}
use Rattle.call_log.specs.Merge.{Merge}

-- the calls of a log in its order, each with its caller
abbrev pub made_in : List Logged → List (ℕ × Call)
made_in log = map (λ (entry : Logged). (entry.caller, entry.call)) log

-- calls with their caller
abbrev pub made_by : ℕ → List Call → List (ℕ × Call)
made_by caller calls = map (λ (call : Call). (caller, call)) calls

-- the well-named calls of the callers from a number on, each with its caller: all of one caller, then all of the next
abbrev pub serial_calls_from : Graph → ℕ → List (List Call) → List (ℕ × Call)
serial_calls_from graph caller [] = []
serial_calls_from graph caller (calls ∷ scripts) = made_by caller (well_named graph calls) ++ serial_calls_from graph (caller + 1) scripts

abbrev pub serial_calls : Graph → List (List Call) → List (ℕ × Call)
serial_calls graph scripts = serial_calls_from graph 1 scripts

-- all calls of a thread stand before those of a later one: along the log the callers never fall
abbrev pub IsThreadAfterThread : List Logged → Type 0
IsThreadAfterThread log = IsNonDecreasingBy (λ (entry : Logged). entry.caller) log

-- along the log the versions count from 1
abbrev pub CountsVersions : List Logged → Type 0
CountsVersions log = (k : ℕ) (d : Logged) → k < length log → (slice_index_or log k d).version ≡ k + 1

-- a log is that of all scripts, thread after thread: it has the first of all threads' well-named calls laid end to end,
-- as many as there are versions, with versions that count from 1
pub record IsSerialLog (graph : Graph) (scripts : List (List Call)) (limit : ℕ) (log : List Logged) : Type 0 where
  pub calls : made_in log ≡ take limit (serial_calls graph scripts)
  pub versions : CountsVersions log

-- what a run of all scripts leaves, thread after thread: its log, what it refused, and all values behind it
pub record IsSerialRun (graph : Graph) (scripts : List (List Call)) (limit : ℕ) (log : List Logged) (refused : List Refused)
    (last : List Value) : Type 0 where
  pub serial : IsSerialLog graph scripts limit log
  pub legal : Legal graph log
  pub merge : Merge graph scripts limit log refused
  pub values : last ≡ finals graph log
