use Rattle.std.proofs.Common.{arith}
use Rattle.replay_run.proofs.Numbers.{few_so_far}
use Rattle.replay_run.proofs.schedule.value.Goals as goal

pub overflow_mul-total : goal.overflow_mul-total
overflow_mul-total c =
    let few = few_so_far c.args.digits.now c.loop-digit.digit-index c.requires.few c.requires.digits c.loop-digit-test.true in
    omega (arith, few, c.loop-digit.invariant)

pub overflow_add-total : goal.overflow_add-total
overflow_add-total c =
    let few = few_so_far c.args.digits.now c.loop-digit.digit-index c.requires.few c.requires.digits c.loop-digit-test.true in
    omega (arith, few, c.loop-digit.invariant, c.from.ensures, c.saturating_sub.ensures)
