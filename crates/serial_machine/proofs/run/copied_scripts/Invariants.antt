use Rattle.std.proofs.Common.{◌≡◌, take}
use Rattle.serial_machine.proofs.run.copied_scripts.Given as goal

abbrev pub invariant-loop-calls : goal.invariant-loop-calls
invariant-loop-calls l = l.copied ≡ take l.calls-index l.calls-items
