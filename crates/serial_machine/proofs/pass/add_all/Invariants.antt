use Rattle.std.proofs.Common.{take}
use Rattle.serial_machine.proofs.MarkLaws.{Adds}
use Rattle.serial_machine.proofs.pass.add_all.Given as goal

abbrev pub invariant-loop-node : goal.invariant-loop-node
invariant-loop-node l = Adds l.fn.marks l.marks (take l.node-index l.nodes)
