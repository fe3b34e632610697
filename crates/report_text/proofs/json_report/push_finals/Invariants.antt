use Rattle.std.proofs.Common.{◌≡◌, ◌++◌, drop, map}
use Rattle.std.specs.List.{zip}
use Rattle.serde_json.specs.View.{items_of}
use Rattle.serde_json.specs.Written.{items_text, compact_text}
use Rattle.report_text.specs.Json.{list_data, look_data}
use Rattle.report_text.proofs.json_report.push_finals.Given as goal

-- what is still to be written comes behind what was written
abbrev pub invariant-loop-node : goal.invariant-loop-node
invariant-loop-node l =
    l.out ++ items_text l.later (items_of (map look_data (zip (drop l.node l.graph.names) (drop l.node l.finals)))) ≡ l.fn.out ++ compact_text (list_data look_data (zip l.graph.names l.finals))
