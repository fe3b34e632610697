use Rattle.std.proofs.Common.{◌≡◌, ◌++◌, drop, map}
use Rattle.std.specs.List.{zip}
use Rattle.serde_json.specs.View.{view}
use Rattle.report_text.specs.Json.{look_data}
use Rattle.report_text.proofs.json_values.looks_json.Given as goal

-- what is still to be made comes behind what was made
abbrev pub invariant-loop-index : goal.invariant-loop-index
invariant-loop-index l = map view l.looks.items ++ map look_data (zip (drop l.index l.names) (drop l.index l.values)) ≡ map look_data (zip l.names l.values)
