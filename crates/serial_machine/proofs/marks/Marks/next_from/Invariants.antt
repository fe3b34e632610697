use Rattle.std.proofs.Common.{◌*◌}
use Rattle.serial_machine.specs.Marking.{AreUnmarked}
use Rattle.serial_machine.proofs.marks.Marks.next_from.Given as goal

abbrev pub invariant-loop-block : goal.invariant-loop-block
invariant-loop-block l = AreUnmarked l.nodes l.from (64 * l.block)
