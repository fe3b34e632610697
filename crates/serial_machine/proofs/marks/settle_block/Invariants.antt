use Rattle.std.proofs.Common.{◌*◌}
use Rattle.serial_machine.proofs.MarkLaws.{Settles}
use Rattle.serial_machine.proofs.marks.settle_block.Given as goal

abbrev pub invariant-loop-node : goal.invariant-loop-node
invariant-loop-node l = Settles l.fn.nodes (64 * l.block) l.node l.nodes l.before.items l.now
