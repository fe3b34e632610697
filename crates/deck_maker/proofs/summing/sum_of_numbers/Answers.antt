use Rattle.std.proofs.Common.{arith}
use Rattle.std.proofs.lemmas.Int.{ints}
use Rattle.deck_maker.proofs.Adding.{one_more}
use Rattle.deck_maker.proofs.summing.sum_of_numbers.Goals as goal

-- one more number of 64 bits is added
pub loop-value-preserved : goal.loop-value-preserved
loop-value-preserved c =
    let before = c.loop-value.invariant in
    let fits = c.added.type_inv in
    let low = c.loop-value-test.true in
    let long = c.args.finals in (
      one_more c.args.finals.now c.loop-value.value-index _ _ c.added.result _ low before.0 c.added.ensures (omega (arith, ints)),
      omega (arith, ints),
      omega (arith, ints),
    )
