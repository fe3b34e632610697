use Rattle.std.proofs.Common.{◌≡◌, IfOk, subst}
use Rattle.deck_maker.proofs.Steps.{read_is, read_state, fire_is, fire_state}
use Rattle.deck_maker.proofs.calling.call.Goals as goal

pub returns-then-draw-eq0-clause-call : goal.returns-then-draw-eq0-clause-call
returns-then-draw-eq0-clause-call c =
    subst (λ made. IfOk c.read.result (λ call. call ≡ made))
    (read_is c.args.thread c.args.draws.now c.draw.result c.draw.new.self c.draw-look.result c.draw.ensures.value c.if-draw-eq0.true c.draw.ensures.state c.draw-look.ensures.value)
    c.read.ensures

pub returns-then-draw-eq0-clause-state : goal.returns-then-draw-eq0-clause-state
returns-then-draw-eq0-clause-state c =
    read_state c.args.draws.now c.draw.result c.draw.new.self c.draw-look.new.self c.draw.ensures.value c.if-draw-eq0.true c.draw.ensures.state c.draw-look.ensures.state

pub returns-clause-call : goal.returns-clause-call
returns-clause-call c =
    subst (λ made. IfOk c.fire.result (λ call. call ≡ made))
    (fire_is c.args.thread c.args.draws.now c.draw.result c.draw.new.self c.draw-source.result c.draw-source.new.self c.draw-number.result c.draw-number.new.self c.draw-look-2.result
    c.draw.ensures.value c.if-draw-eq0.false c.draw.ensures.state c.draw-source.ensures.value c.draw-source.ensures.state c.draw-number.ensures.value c.draw-number.ensures.state c.draw-look-2.ensures.value)
    c.fire.ensures

pub returns-clause-state : goal.returns-clause-state
returns-clause-state c =
    fire_state c.args.draws.now c.draw.result c.draw.new.self c.draw-source.new.self c.draw-number.new.self c.draw-look-2.new.self
    c.draw.ensures.value c.if-draw-eq0.false c.draw.ensures.state c.draw-source.ensures.state c.draw-number.ensures.state c.draw-look-2.ensures.state
