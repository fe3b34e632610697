use Rattle.std.proofs.Common.{◌≡◌, take}
use Rattle.serial_machine.proofs.run.copied_calls.Given as goal

abbrev pub invariant-loop-call : goal.invariant-loop-call
invariant-loop-call l = l.copied ≡ take l.call-index l.call-items
