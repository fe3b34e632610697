use Rattle.worker_gate.proofs.Tokens.{Still}
use Rattle.worker_gate.proofs.worker.finish.Given as goal

abbrev pub invariant-loop : goal.invariant-loop
invariant-loop g l = ((goal.iterator-loop g).can_next l.iterator' × (goal.iterator-loop g).is_finite l.iterator') × Still l.initial.live l.live
