use Rattle.serial_machine.proofs.ChooserLists.{ListsBelow}
use Rattle.serial_machine.proofs.choosers.choosers.Given as goal

abbrev pub invariant-loop-node : goal.invariant-loop-node
invariant-loop-node l = ListsBelow l.graph l.node l.lists.items
