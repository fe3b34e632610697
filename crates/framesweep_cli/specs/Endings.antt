-- What each command makes of its input.
use Rattle.std.specs.Prelude.{◌≡◌, ◌↔◌, ℕ, ◌≤◌, Bool, true, false, ⊤, List, [], ◌∷◌, ◌++◌, codes, decimal, Option, Some}
use Rattle.script_tree.specs.declared.limits.TheConstants.{VERSIONS}
use Rattle.script_tree.specs.declared.value.Value.{Value}
use Rattle.signal_graph.specs.declared.log.Logged.{Logged}
use Rattle.signal_graph.specs.declared.log.Refused.{Refused}
use Rattle.signal_graph.specs.Legal.{Legal, finals}
use Rattle.call_log.specs.Merge.{Merge}
use Rattle.serial_machine.specs.SerialOrder.{IsSerialLog}
use Rattle.flow_model.specs.Machine.Histories.{last_values}
use Rattle.flow_model.specs.Machine.Schedules.{replayed, all_refused}
use Rattle.deck_text.specs.Decks.{Decked}
use Rattle.deck_text.specs.Printed.{canonical}
use Rattle.report_text.specs.Report.{report_of}
use Rattle.report_text.specs.Json.{json_of}
use Rattle.report_text.specs.declared.data.Report.{Report}
use Rattle.report_text.specs.Printed.{printed}
use Rattle.report_check.specs.declared.verdict.Verdict.{Verdict}
use Rattle.report_check.specs.declared.verdict.Verdict.TheVariants.{Yes, Wrong}
use Rattle.report_check.specs.Runs.{AreReportOfRun}
use Rattle.report_check.specs.Verdicts.{IsVerdict}
use Rattle.command_words.specs.declared.command.Command.{Command}
use Rattle.command_words.specs.declared.command.Command.TheVariants.{Run, Replay, Serial, Print, Check, Make}
use Rattle.framesweep_cli.specs.declared.input.Input.{Input}
use Rattle.separate_decks.specs.Workload.{workload_graph, workload_scripts}
use Rattle.deck_maker.specs.Summary.{summary_of}
use Rattle.framesweep_cli.specs.Inputs.{reading_of, IsGiven}

-- a report as text or as one line of JSON
abbrev pub report_bytes : Bool → List Logged → List Refused → List (List ℕ) → List Value → List ℕ
report_bytes false log refused names finals = report_of log refused names finals
report_bytes true log refused names finals = json_of log refused names finals

-- which run it is, by the log and the refused calls
abbrev pub Runs : Type 1
Runs = List Logged → List Refused → Type 0

-- the report of a run of a deck: every reply is the one-thread machine's in the order of the log, the log and what was
-- refused are one merge of all threads' calls, the final values are those behind the log, and the run is one of these
pub record IsReport (deck : Decked) (versions : ℕ) (json : Bool) (IsRun : Runs) (text : List ℕ) : Type 0 where
  pub log : List Logged
  pub refused : List Refused
  pub run : IsRun log refused
  pub legal : Legal deck.graph log
  pub merge : Merge deck.graph deck.scripts versions log refused
  pub bytes : text ≡ report_bytes json log refused deck.graph.names (finals deck.graph log)

-- any run will do
abbrev pub IsAnyRun : Runs
IsAnyRun log refused = ⊤

-- the first of all threads' well-named calls laid end to end, as many as there are versions, with versions that count
-- from 1
abbrev pub IsSerial : Decked → ℕ → Runs
IsSerial deck versions log refused = IsSerialLog deck.graph deck.scripts versions log

-- the run that the schedule makes: the turns of its numbers, and then rounds
pub record IsReplay (input : Input) (versions : ℕ) (log : List Logged) (refused : List Refused) : Type 0 where
  pub logged : log ≡ (replayed input.deck.graph input.deck.scripts versions input.schedule).core.log
  pub refused_are : refused ≡ all_refused (replayed input.deck.graph input.deck.scripts versions input.schedule).threads
  pub finals_are : finals input.deck.graph log ≡ last_values (replayed input.deck.graph input.deck.scripts versions input.schedule).core

-- the line of a verdict
abbrev pub verdict_line : Verdict → List ℕ
verdict_line Yes = codes "yes\n"
verdict_line (Wrong line) = codes "no: line " ++ (decimal line ++ 10 ∷ [])

-- the line of the verdict on a report: yes exactly where its bytes are the report of a run of the deck, and else the first of its
-- lines that isn't right by its place
pub record IsCheck (deck : Decked) (versions : ℕ) (report : Report) (text : List ℕ) : Type 0 where
  pub verdict : Verdict
  pub yes : verdict ≡ Yes ↔ AreReportOfRun deck.graph deck.scripts versions (printed report)
  pub first : IsVerdict deck.graph deck.scripts versions report verdict
  pub bytes : text ≡ verdict_line verdict

-- The summary of a run of the workload's deck of a number, which no order of the calls changes: it is that of each run of all of them,
-- so that of the run of thread after thread too.
pub record IsSummary (number : ℕ) (text : List ℕ) : Type 0 where
  pub log : List Logged
  pub refused : List Refused
  pub legal : Legal (workload_graph number) log
  pub merge : Merge (workload_graph number) (workload_scripts number) VERSIONS log refused
  pub each : (other : List Logged) (left : List Refused) → Merge (workload_graph number) (workload_scripts number) VERSIONS other left
      → text ≡ summary_of number 216 4000 (finals (workload_graph number) other)

-- what a command writes for its input, or without any
abbrev pub IsOutput : Command → Input → List ℕ → Type 0
IsOutput (Run versions json) input text = IsReport input.deck versions json IsAnyRun text
IsOutput (Replay versions json) input text = IsReport input.deck versions json (IsReplay input versions) text
IsOutput (Serial versions json) input text = IsReport input.deck versions json (IsSerial input.deck versions) text
IsOutput Print input text = text ≡ canonical input.deck
IsOutput (Check versions) input text = (report : Report) × (input.report ≡ Some report) × IsCheck input.deck versions report text
IsOutput (Make number) input text = IsSummary number text

-- the text is what the command writes for the input that is read, if any is
pub record Makes (command : Command) (left : Option (List ℕ)) (text : List ℕ) : Type 0 where
  pub input : Input
  pub given : IsGiven (reading_of command) left input
  pub output : IsOutput command input text

-- the command waits for nobody, and its limit of versions is at most the greatest one
abbrev pub IsAlone : Command → Type 0
IsAlone (Run versions json) = ⊥
IsAlone (Replay versions json) = versions ≤ VERSIONS
IsAlone (Serial versions json) = versions ≤ VERSIONS
IsAlone Print = ⊤
IsAlone (Check versions) = versions ≤ VERSIONS
IsAlone (Make number) = ⊥
