use Rattle.std.proofs.Common.{ap, ◌∙◌}
use Rattle.serde_json.specs.Written.{has_float}
use Rattle.report_text.specs.Report.{line_of}
use Rattle.report_text.proofs.JsonSteps.{call_has_no_float}
use Rattle.report_text.proofs.json_report.push_calls.Goals as goal

pub push_item-requires : goal.push_item-requires
push_item-requires c = ap has_float c.in_ok-call.ensures ∙ call_has_no_float (line_of c.entry-item.result)
