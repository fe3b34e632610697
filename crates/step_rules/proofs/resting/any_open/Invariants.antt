use Rattle.std.proofs.Common.{◌≡◌, drop}
use Rattle.step_rules.specs.Rests.{any_open}
use Rattle.step_rules.proofs.resting.any_open.Given as goal

abbrev pub invariant-loop-node : goal.invariant-loop-node
invariant-loop-node l = any_open l.book l.version (drop l.node-index l.nodes) ≡ any_open l.book l.version l.nodes
