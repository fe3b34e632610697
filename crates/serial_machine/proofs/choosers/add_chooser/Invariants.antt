use Rattle.std.proofs.Common.{take}
use Rattle.serial_machine.proofs.ChooserLists.{Lists}
use Rattle.serial_machine.proofs.choosers.add_chooser.Given as goal

abbrev pub invariant-loop-candidate : goal.invariant-loop-candidate
invariant-loop-candidate l = Lists l.fn.lists.items l.lists.items l.node (take l.candidate-index l.candidates)
