use Rattle.serial_machine.proofs.Reaching.{Visits}
use Rattle.serial_machine.proofs.pass.renew_all.Given as goal

abbrev pub invariant-loop : goal.invariant-loop
invariant-loop l = Visits l.graph l.before l.fn.now.items l.counter l.from l.now.items l.picks.items l.marks l.changed l.evaluated
