use Rattle.std.proofs.Common.{List, ℕ, ap, ◌∙◌, subst}
use Rattle.flow_model.specs.declared.step.Turn.{Turn}
use Rattle.flow_model.specs.Machine.Next.{next}
use Rattle.flow_model.specs.Machine.Histories.{Move, state}
use Rattle.caller_fronts.specs.Tokens.{Going}
use Rattle.sweeper.specs.Answers.{Takes, seen}
use Rattle.sweeper.specs.Tokens.{met_at}
use Rattle.sweeper.proofs.locked.Locked.advance.Goals as goal

pub returns-clause-answer : goal.returns-clause-answer
returns-clause-answer g c =
    let j = g.J.Naming in
    let moves = c.args.self.now.moves in
    let met = c.meet-met.result in
    let turn = c.next-turn.result in
    let e = ap (λ h. h.moves) c.meet-met.ensures.after in
    let here = subst (λ (ms : List Move). Takes j.graph j.callers j.limit (met_at j.graph j.callers j.limit met ms) turn c.take.result) e c.take.ensures in
    let known = subst (λ (l : Going). Takes j.graph j.callers j.limit l turn c.take.result) c.meet-met.ensures.same here in
    let is = c.next-turn.ensures.turn
    ∙ ap (λ (ms : List Move). next j.graph (state j.graph j.callers j.limit ms) met.version) e
    ∙ ap (λ (v : ℕ). next j.graph (state j.graph j.callers j.limit moves) v) (ap (λ (l : Going). l.version) c.meet-met.ensures.same) in
    subst (λ (x : Turn). Takes j.graph j.callers j.limit (seen c.args.live moves) x c.take.result) is known
