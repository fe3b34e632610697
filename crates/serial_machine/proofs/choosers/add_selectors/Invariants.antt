use Rattle.std.proofs.Common.{take}
use Rattle.serial_machine.specs.Reading.{candidates_of_all}
use Rattle.serial_machine.proofs.ChooserLists.{Lists}
use Rattle.serial_machine.proofs.choosers.add_selectors.Given as goal

abbrev pub invariant-loop-selector : goal.invariant-loop-selector
invariant-loop-selector l = Lists l.fn.lists.items l.lists.items l.node (candidates_of_all (take l.selector-index l.selectors))
