use Rattle.std.proofs.Common.{◌≡◌, drop, length}
use Rattle.flow_model.specs.Machine.Schedules.{round_from}
use Rattle.replay_run.specs.Replaying.{stage_of, play_of}
use Rattle.replay_run.proofs.replaying.Replaying.round.Given as goal

abbrev pub invariant-loop-thread : goal.invariant-loop-thread
invariant-loop-thread l =
    (l.self.graph ≡ l.fn.self.graph)
    × (length l.self.threads ≡ length l.fn.self.threads)
    × (stage_of l.fn.self.graph (round_from l.fn.self.graph l.thread (drop l.thread l.fn.self.threads) (play_of l.self)) ≡ stage_of l.fn.self.graph (round_from l.fn.self.graph 0 l.fn.self.threads (play_of l.fn.self)))
