use Rattle.std.proofs.Common.{◌^◌, arith}
use Rattle.deck_lines.proofs.Numbers.{too_great}
use Rattle.deck_lines.proofs.value.number.Goals as goal

pub returns-then-total-gt-TENTH-clause-none : goal.returns-then-total-gt-TENTH-clause-none
returns-then-total-gt-TENTH-clause-none c =
    too_great c.args.digits.now c.loop-digit.digit-index c.loop-digit.total (2 ^ 63) c.loop-digit-test.true c.loop-digit.invariant.0 (omega (arith, c.if-total-gt-TENTH.true))

pub returns-then-sum-gt-MOST-clause-none : goal.returns-then-sum-gt-MOST-clause-none
returns-then-sum-gt-MOST-clause-none c =
    too_great c.args.digits.now c.loop-digit.digit-index c.loop-digit.total (2 ^ 63) c.loop-digit-test.true c.loop-digit.invariant.0 (omega (arith, c.if-sum-gt-MOST.true, c.from.ensures, c.saturating_sub.ensures))
