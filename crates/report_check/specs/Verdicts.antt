-- What the check of a report answers.
use Rattle.std.specs.Prelude.{ℕ, List}
use Rattle.signal_graph.specs.declared.call.Call.{Call}
use Rattle.signal_graph.specs.Graph.{Graph}
use Rattle.report_text.specs.declared.data.Report.{Report}
use Rattle.report_check.specs.declared.verdict.Verdict.{Verdict}
use Rattle.report_check.specs.declared.verdict.Verdict.TheVariants.{Yes, Wrong}
use Rattle.report_check.specs.Right.{AreRight, IsFirstWrong}

-- yes where every line is right, and the number of the first wrong line where one isn't
abbrev pub IsVerdict : Graph → List (List Call) → ℕ → Report → Verdict → Type 0
IsVerdict graph scripts limit report Yes = AreRight graph scripts limit report
IsVerdict graph scripts limit report (Wrong number) = IsFirstWrong graph scripts limit report number
