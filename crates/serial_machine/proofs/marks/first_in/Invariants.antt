use Rattle.serial_machine.specs.Marking.{AreUnmarked}
use Rattle.serial_machine.proofs.marks.first_in.Given as goal

abbrev pub invariant-loop-node : goal.invariant-loop-node
invariant-loop-node l = AreUnmarked l.nodes l.from l.node
