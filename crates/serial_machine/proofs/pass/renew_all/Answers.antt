use Rattle.std.proofs.Common.{refl, ap, ◌∙◌}
use Rattle.signal_graph.specs.Machine.{differs}
use Rattle.serial_machine.proofs.Reaching.{HasReached, reached, visits_next}
use Rattle.serial_machine.proofs.pass.renew_all.Goals as goal

pub loop-preserved : goal.loop-preserved
loop-preserved c =
    let before = c.args.before.now in
    let n = c.in-Some.number in
    visits_next c.args.graph.now before c.args.now.now.items c.loop.counter _ c.loop.from _ n c.loop.now.items c.renew-touched.new.now.items c.loop.picks.items c.renew-touched.new.picks.items
    c.loop.marks c.tell.new.marks c.loop.changed c.loop.evaluated c.counted-changed.result c.counted-evaluated.result c.differs-moved.result c.renew-touched.result
    c.len-end.ensures.kept c.requires.follow c.in-Some.ensures.some refl refl c.renew-touched.ensures.evaluated c.renew-touched.ensures.value c.renew-touched.ensures.picks
    (c.differs-moved.ensures ∙ ap (λ vs. differs before vs n) c.as_slice.ensures.value)
    c.tell.ensures.size c.tell.ensures.more c.tell.ensures.told c.counted-changed.ensures c.counted-evaluated.ensures c.loop.invariant

-- no mark is left
done : (c : goal.In_default) → HasReached c.args.graph.now c.args.before.now c.args.now.now.items c.loop.now.items c.loop.picks.items c.loop.marks c.loop.changed c.loop.evaluated
done c =
    reached c.args.graph.now c.args.before.now c.args.now.now.items c.loop.counter c.loop.from c.loop.now.items c.loop.picks.items c.loop.marks c.loop.changed c.loop.evaluated
    c.len-end.ensures.kept c.requires.follow c.in_default.ensures.none c.loop.invariant

pub returns-in_default-clause-values : goal.returns-in_default-clause-values
returns-in_default-clause-values c = (done c).values

pub returns-in_default-clause-picked : goal.returns-in_default-clause-picked
returns-in_default-clause-picked c = (done c).picks

pub returns-in_default-clause-changed : goal.returns-in_default-clause-changed
returns-in_default-clause-changed c = (done c).changes

pub returns-in_default-clause-evaluated : goal.returns-in_default-clause-evaluated
returns-in_default-clause-evaluated c = (done c).evaluates

pub returns-in_default-clause-agree : goal.returns-in_default-clause-agree
returns-in_default-clause-agree c = (done c).agree
