use Rattle.std.proofs.Common.{length, ◌-◌}
use Rattle.replay_run.proofs.Dividing.{IsGoneOver}
use Rattle.replay_run.proofs.input.split_input.Given as goal

abbrev pub invariant-loop-start : goal.invariant-loop-start
invariant-loop-start l = IsGoneOver l.bytes l.start

abbrev pub decreases-loop-start : goal.decreases-loop-start
decreases-loop-start l = length l.bytes - l.start
