use Rattle.std.proofs.Common.{◌≡◌, refl, arith}
use Rattle.expr_script.proofs.Numbers.{place_here, place_on}
use Rattle.expr_script.proofs.words.place_of.Goals as goal

pub returns-then-same-clause-place : goal.returns-then-same-clause-place
returns-then-same-clause-place c =
    omega (arith, c.loop-at.invariant, place_here c.args.names.now c.loop-at.at c.get.result.now c.args.name.now c.get.ensures (c.if-same.ensures.0 refl))

pub loop-at-preserved : goal.loop-at-preserved
loop-at-preserved c =
    let other : c.get.result.now ≡ c.args.name.now → ⊥ = λ e. let h = c.if-same.ensures.1 e in cc in
    omega (arith, c.loop-at.invariant, place_on c.args.names.now c.loop-at.at c.get.result.now c.args.name.now c.get.ensures other)
