use Rattle.std.proofs.Common.{◌≡◌}
use Rattle.replay_run.proofs.Stages.{IsAhead}
use Rattle.replay_run.proofs.replaying.Replaying.finish_rounds.Given as goal

abbrev pub invariant-loop-round : goal.invariant-loop-round
invariant-loop-round l = (l.self.graph ≡ l.fn.self.graph) × IsAhead l.fn.self.graph l.fn.self l.self l.round
