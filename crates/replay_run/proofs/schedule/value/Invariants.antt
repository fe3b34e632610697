use Rattle.std.proofs.Common.{◌≡◌, take}
use Rattle.expr_script.specs.Words.{value}
use Rattle.replay_run.proofs.schedule.value.Given as goal

abbrev pub invariant-loop-digit : goal.invariant-loop-digit
invariant-loop-digit l = l.total ≡ value 0 (take l.digit-index l.digits)
