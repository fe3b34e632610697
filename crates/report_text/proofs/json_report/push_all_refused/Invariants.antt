use Rattle.std.proofs.Common.{◌≡◌, ◌++◌, drop, map}
use Rattle.serde_json.specs.View.{items_of}
use Rattle.serde_json.specs.Written.{items_text, compact_text}
use Rattle.report_text.specs.Json.{list_data, refused_data}
use Rattle.report_text.proofs.json_report.push_all_refused.Given as goal

-- what is still to be written comes behind what was written
abbrev pub invariant-loop-one : goal.invariant-loop-one
invariant-loop-one l =
    l.out ++ items_text l.later (items_of (map refused_data (drop l.one-index l.refused))) ≡ l.fn.out ++ compact_text (list_data refused_data l.refused)
