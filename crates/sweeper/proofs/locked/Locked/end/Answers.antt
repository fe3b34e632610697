use Rattle.std.proofs.Common.{◌≡◌, true, List, Option, sym, ap, ◌∙◌, subst}
use Rattle.std.specs.Prelude.{is_none}
use Rattle.signal_graph.specs.Graph.{Graph}
use Rattle.flow_model.specs.declared.step.Cause.{Cause}
use Rattle.flow_model.specs.Kept.Lawful.{IsLawful}
use Rattle.flow_model.specs.Machine.State.{Core, live}
use Rattle.flow_model.specs.Machine.Next.{why_not_ended}
use Rattle.flow_model.specs.Machine.Histories.{Move, state}
use Rattle.caller_fronts.specs.Tokens.{Going}
use Rattle.sweeper.specs.Answers.{Finishes}
use Rattle.sweeper.specs.Tokens.{met_at}
use Rattle.sweeper.proofs.locked.Locked.end.Goals as goal

pub end_met-requires-clause-allowed : goal.end_met-requires-clause-allowed
end_met-requires-clause-allowed g c =
    let j = g.J.Naming in
    let i = c.self.invariant.1 in
    let t = c.meet-met.result.version in
    let now = state j.graph j.callers j.limit c.meet-met.new.self.moves in
    let same : c.self.inside.core.state ≡ now = i.state_is ∙ ap (state j.graph j.callers j.limit) (ap (λ h. h.moves) c.self.view_is) in
    let lawful = subst (IsLawful j.graph) same (subst (λ (x : Graph). IsLawful x c.self.inside.core.state) i.graph_is c.book.ensures.fits.lawful) in
    let e = ap (λ h. h.moves) c.meet-met.ensures.after in
    let lives = subst (λ (ms : List Move). live (state j.graph j.callers j.limit ms) t ≡ true) (sym e) c.meet-met.ensures.met.going.lives in
    let none = ap (λ (q : Core). why_not_ended q t) (sym same) ∙ sym (c.why_not_ended.ensures.cause c.self.inside.core.state c.book.ensures.fits.parts) ∙ c.in-None.is in
    c.causes_are_exact.ensures.lawful j.graph now lawful t lives ∙ ap (λ (o : Option Cause). is_none o) none

pub returns-in-None-clause-answer : goal.returns-in-None-clause-answer
returns-in-None-clause-answer g c =
    let j = g.J.Naming in
    let moves = c.args.self.now.moves in
    let met = c.meet-met.result in
    let e = ap (λ h. h.moves) c.meet-met.ensures.after in
    subst (λ (l : Going). Finishes j.graph j.callers j.limit l moves c.end_met.result) c.meet-met.ensures.same
    (subst (λ (ms : List Move). Finishes j.graph j.callers j.limit (met_at j.graph j.callers j.limit met ms) ms c.end_met.result) e c.end_met.ensures)
