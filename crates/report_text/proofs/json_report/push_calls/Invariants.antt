use Rattle.std.proofs.Common.{◌≡◌, ◌++◌, drop, map}
use Rattle.serde_json.specs.View.{items_of}
use Rattle.serde_json.specs.Written.{items_text, compact_text}
use Rattle.report_text.specs.Report.{line_of}
use Rattle.report_text.specs.Json.{list_data, call_data}
use Rattle.report_text.proofs.json_report.push_calls.Given as goal

-- what is still to be written comes behind what was written
abbrev pub invariant-loop-entry : goal.invariant-loop-entry
invariant-loop-entry l =
    l.out ++ items_text l.later (items_of (map call_data (map line_of (drop l.entry-index l.log)))) ≡ l.fn.out ++ compact_text (list_data call_data (map line_of l.log))
