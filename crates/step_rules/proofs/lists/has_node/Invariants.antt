use Rattle.std.proofs.Common.{◌≡◌, drop}
use Rattle.node_versions.specs.Entries.{has_node}
use Rattle.step_rules.proofs.lists.has_node.Given as goal

abbrev pub invariant-loop-index : goal.invariant-loop-index
invariant-loop-index l = has_node (drop l.index l.list.outs) l.chooser ≡ has_node l.list.outs l.chooser
