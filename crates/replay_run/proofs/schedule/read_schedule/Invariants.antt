use Rattle.std.proofs.Common.{◌≡◌, ◌++◌, length}
use Rattle.replay_run.specs.Schedule.{schedule_of}
use Rattle.replay_run.proofs.schedule.read_schedule.Given as goal

abbrev pub invariant-loop-rest : goal.invariant-loop-rest
invariant-loop-rest l = l.schedule ++ schedule_of l.rest ≡ schedule_of l.fn.bytes

abbrev pub decreases-loop-rest : goal.decreases-loop-rest
decreases-loop-rest l = length l.rest
