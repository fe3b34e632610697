-- From a verdict to the line that is written.
use Rattle.std.proofs.Common.{◌≡◌, ℕ, ◌-◌, ◌≤◌, List, Some, Result, Ok, Err, length, arith}
use Rattle.std.specs.Prelude.{◌↔◌, ◌<◌, ◌^◌, IfOk}
use Rattle.command_words.specs.declared.command.Command.TheVariants.{Check}
use Rattle.signal_graph.specs.declared.call.Call.{Call}
use Rattle.signal_graph.specs.Graph.{Graph}
use Rattle.script_tree.specs.declared.memory.OutOfMemory.{OutOfMemory}
use Rattle.deck_text.specs.Decks.{Decked}
use Rattle.report_text.specs.declared.data.Report.{Report}
use Rattle.report_text.specs.Printed.{printed, IsReport}
use Rattle.report_check.specs.declared.verdict.Verdict.{Verdict}
use Rattle.report_check.specs.declared.verdict.Verdict.TheVariants.{Yes}
use Rattle.report_check.specs.Lines.{lines_of}
use Rattle.report_check.specs.Runs.{IsReportOfRun, AreReportOfRun}
use Rattle.report_check.specs.Verdicts.{IsVerdict}
use Rattle.framesweep_cli.specs.declared.input.Input.{Input}
use Rattle.framesweep_cli.specs.declared.limits.TheConstants.{REPORTED_BYTES}
use Rattle.framesweep_cli.specs.Endings.{verdict_line, IsCheck, IsOutput}

-- each line has a number
pub few_lines : (report : Report) → length (lines_of report) ≤ length (printed report) → length (printed report) ≤ REPORTED_BYTES
    → length (lines_of report) < 2 ^ 32 - 1
few_lines report lines short = omega (arith, lines, short)

-- a report is that of a run exactly where its bytes are
abbrev ByBytes : Type 0
ByBytes = (graph : Graph) (scripts : List (List Call)) (limit : ℕ) (report : Report) → IsReport report
    → IsReportOfRun graph scripts limit report ↔ AreReportOfRun graph scripts limit (printed report)

-- the verdict on the data of a report is that on its bytes
is_check : ByBytes → (deck : Decked) (versions : ℕ) (report : Report) (verdict : Verdict) (text : List ℕ)
    → IsReport report → verdict ≡ Yes ↔ IsReportOfRun deck.graph deck.scripts versions report
    → IsVerdict deck.graph deck.scripts versions report verdict → text ≡ verdict_line verdict → IsCheck deck versions report text
is_check law deck versions report verdict text is_report agrees first is =
    let bytes = law deck.graph deck.scripts versions report is_report in
    record {
      verdict = verdict;
      yes = (λ e. bytes.0 (agrees.0 e), λ run. agrees.1 (bytes.1 run));
      first = first;
      bytes = is;
    }

pub checked : ByBytes → (deck : Decked) (versions : ℕ) (report : Report) (verdict : Verdict) (line : Result (List ℕ) OutOfMemory)
    → IsReport report → verdict ≡ Yes ↔ IsReportOfRun deck.graph deck.scripts versions report
    → IsVerdict deck.graph deck.scripts versions report verdict → IfOk line (λ text. text ≡ verdict_line verdict)
    → IfOk line (IsCheck deck versions report)
checked law deck versions report verdict (Ok text) is_report agrees first is =
    is_check law deck versions report verdict text is_report agrees first is
checked law deck versions report verdict (Err e) is_report agrees first is = tt

-- it is what the command writes for an input with that report
pub check_output : (versions : ℕ) (input : Input) (report : Report) (text : List ℕ) → input.report ≡ Some report
    → IsCheck input.deck versions report text → IsOutput (Check versions) input text
check_output versions input report text there checked = (report, there, checked)
