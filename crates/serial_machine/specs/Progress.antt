-- A run of scripts one after the other, call by call.
use Rattle.std.specs.Prelude.{ℕ, ◌+◌, ◌-◌, Option, Some, None, List, [], ◌∷◌, ◌++◌, length}
use Rattle.signal_graph.specs.declared.call.Call.{Call}
use Rattle.signal_graph.specs.declared.log.Logged.{Logged}
use Rattle.signal_graph.specs.declared.log.Why.{Why}
use Rattle.signal_graph.specs.declared.log.Refused.{Refused}
use Rattle.signal_graph.specs.Graph.{Graph}
use Rattle.signal_graph.specs.Machine.{misnamed, reply}
use Rattle.signal_graph.specs.Legal.{state_after}
use Rattle.call_log.specs.LeftOut.{why_not, refusal}

-- what a run has made and refused so far
pub record Progress : Type 0 where
  pub log : List Logged
  pub refused : List Refused

-- why the next call of a run is not made: its names, or the versions, which the log has used up
abbrev pub why_not_next : Graph → ℕ → List Logged → Call → Option Why
why_not_next graph limit log call = why_not limit (limit - length log) (misnamed graph call)

-- the entry of a call that is made behind a log
abbrev pub entry_of : Graph → ℕ → List Logged → Call → Logged
entry_of graph caller log call =
    record { caller = caller; version = length log + 1; call = call; reply = reply graph (state_after graph log) call }

-- a log with this entry, unless there is a reason against it
abbrev pub with_entry : List Logged → Logged → Option Why → List Logged
with_entry log entry (Some why) = log
with_entry log entry None = log ++ entry ∷ []

-- one call of a caller, which is made or refused
abbrev pub called : Graph → ℕ → ℕ → ℕ → Call → Progress → Progress
called graph limit caller number call progress = record {
  log = with_entry progress.log (entry_of graph caller progress.log call) (why_not_next graph limit progress.log call);
  refused = progress.refused ++ refusal caller number (why_not_next graph limit progress.log call);
}

-- the calls of a caller from a number on
abbrev pub all_called : Graph → ℕ → ℕ → ℕ → List Call → Progress → Progress
all_called graph limit caller number [] progress = progress
all_called graph limit caller number (call ∷ calls) progress =
    all_called graph limit caller (number + 1) calls (called graph limit caller number call progress)

-- all calls of the callers from a number on, caller after caller
abbrev pub all_run : Graph → ℕ → ℕ → List (List Call) → Progress → Progress
all_run graph limit caller [] progress = progress
all_run graph limit caller (calls ∷ scripts) progress =
    all_run graph limit (caller + 1) scripts (all_called graph limit caller 1 calls progress)

-- where every run begins
abbrev pub nothing_yet : Progress
nothing_yet = record { log = []; refused = [] }
