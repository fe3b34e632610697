use Rattle.std.proofs.Common.{◌≡◌, drop}
use Rattle.node_versions.specs.Entries.{has_out}
use Rattle.step_rules.proofs.lists.has_out.Given as goal

abbrev pub invariant-loop-index : goal.invariant-loop-index
invariant-loop-index l = has_out (drop l.index l.list.outs) l.chooser l.since ≡ has_out l.list.outs l.chooser l.since
