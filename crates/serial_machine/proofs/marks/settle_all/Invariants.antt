use Rattle.std.proofs.Common.{◌*◌}
use Rattle.serial_machine.proofs.MarkLaws.{Settles}
use Rattle.serial_machine.proofs.marks.settle_all.Given as goal

abbrev pub invariant-loop-block : goal.invariant-loop-block
invariant-loop-block l = Settles l.fn.nodes 0 (64 * l.block) l.nodes l.before.items l.now
