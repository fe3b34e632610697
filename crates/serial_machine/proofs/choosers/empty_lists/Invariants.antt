use Rattle.std.proofs.Common.{◌≡◌, length}
use Rattle.serial_machine.proofs.choosers.empty_lists.Given as goal

abbrev pub invariant-loop : goal.invariant-loop
invariant-loop l = length l.lists.items ≡ l.counter
