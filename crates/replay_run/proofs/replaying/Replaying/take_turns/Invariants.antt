use Rattle.std.proofs.Common.{◌≡◌, drop, length}
use Rattle.flow_model.specs.Machine.Schedules.{take_turns}
use Rattle.replay_run.specs.Replaying.{stage_of, play_of}
use Rattle.replay_run.proofs.replaying.Replaying.take_turns.Given as goal

abbrev pub invariant-loop-number : goal.invariant-loop-number
invariant-loop-number l =
    (l.self.graph ≡ l.fn.self.graph)
    × (length l.self.threads ≡ length l.fn.self.threads)
    × (stage_of l.fn.self.graph (take_turns l.fn.self.graph (play_of l.self) (drop l.number-index l.schedule)) ≡ stage_of l.fn.self.graph (take_turns l.fn.self.graph (play_of l.fn.self) l.schedule))
