use Rattle.std.proofs.Common.{◌≡◌}
use Rattle.replay_run.specs.Schedule.{first_unnamed}
use Rattle.replay_run.proofs.Unnamed.{from_place}
use Rattle.replay_run.proofs.schedule.first_unnamed.Given as goal

abbrev pub invariant-loop-index : goal.invariant-loop-index
invariant-loop-index l = from_place l.threads l.schedule l.index ≡ first_unnamed l.threads l.schedule
