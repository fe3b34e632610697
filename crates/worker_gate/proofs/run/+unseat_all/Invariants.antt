use Rattle.std.proofs.Common.{vec_len}
use Rattle.worker_gate.proofs.run.+unseat_all.Given as goal

abbrev pub decreases-unseat_all : goal.decreases-unseat_all
decreases-unseat_all g l = vec_len l.seats
