use Rattle.std.proofs.Common.{◌≡◌, ◌≤◌, length, take}
use Rattle.std.specs.List.{zip}
use Rattle.report_check.proofs.finals.first_other_final.Given as goal

abbrev pub invariant-loop-node : goal.invariant-loop-node
invariant-loop-node l = (l.len ≡ length l.graph.nodes) × (l.node ≤ length l.given) × (take l.node (zip l.graph.names l.values) ≡ take l.node l.given)
