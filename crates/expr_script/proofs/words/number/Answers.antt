use Rattle.std.proofs.Common.{◌+◌, ◌*◌, ◌<◌, ◌^◌, sym, arith}
use Rattle.expr_script.proofs.Numbers.{too_great}
use Rattle.expr_script.proofs.words.number.Goals as goal

pub returns-in_default : goal.returns-in_default
returns-in_default c =
    let over : c.loop-digit.total * 10 < 2 ^ 64 → ⊥ = c.in_default.ensures in
    sym (too_great c.args.digits.now c.loop-digit.digit-index c.loop-digit.total c.loop-digit-test.true c.loop-digit.invariant.0 (omega arith))

pub returns-in_default-checked_add : goal.returns-in_default-checked_add
returns-in_default-checked_add c =
    let over : c.in-Some.tens + c.from.result < 2 ^ 64 → ⊥ = c.in_default-checked_add.ensures in
    sym (too_great c.args.digits.now c.loop-digit.digit-index c.loop-digit.total c.loop-digit-test.true c.loop-digit.invariant.0 (omega (arith, c.in-Some.ensures, c.from.ensures)))

pub returns-then-sum-gt-MOST : goal.returns-then-sum-gt-MOST
returns-then-sum-gt-MOST c =
    sym (too_great c.args.digits.now c.loop-digit.digit-index c.loop-digit.total c.loop-digit-test.true c.loop-digit.invariant.0 (omega (arith, c.in-Some.ensures, c.from.ensures, c.in-Some-checked_add.ensures)))
