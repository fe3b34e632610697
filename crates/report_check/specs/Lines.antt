-- A report as one list of lines.
use Rattle.std.specs.Prelude.{ℕ, List, [], ◌∷◌, ◌++◌, map}
use Rattle.script_tree.specs.declared.value.Value.{Value}
use Rattle.signal_graph.specs.declared.log.Refused.{Refused}
use Rattle.report_text.specs.declared.data.CallLine.{CallLine}
use Rattle.report_text.specs.declared.data.Report.{Report}

-- the line of a call, of a refusal, of a last value, and the last line with its two counts
pub data ReportLine : Type 0 where
  OfCall : (line : CallLine) → ReportLine
  OfRefusal : (refused : Refused) → ReportLine
  OfFinal : (last : List ℕ × Value) → ReportLine
  OfDone : (accepted refusals : ℕ) → ReportLine

-- the lines behind those of calls: of refusals, of last values, and the last one. Lines of a further kind would stand
-- between refusals and last values
abbrev pub lines_behind : List Refused → List (List ℕ × Value) → ℕ → ℕ → List ReportLine
lines_behind refused finals accepted refusals = map OfRefusal refused ++ (map OfFinal finals ++ OfDone accepted refusals ∷ [])

abbrev pub lines_of : Report → List ReportLine
lines_of report = map OfCall report.calls ++ lines_behind report.refused report.finals report.accepted report.refusals
