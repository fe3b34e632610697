use Rattle.std.proofs.Common.{◌∙◌, ◌+◌, [], refl, sym, subst}
use Rattle.std.specs.Prelude.{MatchBool}
use Rattle.std.proofs.lemmas.List.{take_all}
use Rattle.worker_gate.specs.Calls.{Sees, IsTaken}
use Rattle.worker_gate.specs.Scripts.{IsMade}
use Rattle.worker_gate.proofs.Making.{nothing-IsMade, next-IsMade, cut-HasMade}
use Rattle.worker_gate.proofs.worker.make_script.Goals as goal

pub loop-index-init : goal.loop-index-init
loop-index-init g c =
    (refl, subst (λ rs. IsMade g.J.Naming.graph g.J.Naming.limit c.args.pass.caller [] rs c.args.pass.front c.args.pass.front) (sym c.requires.none) (nothing-IsMade g.J.Naming.graph g.J.Naming.limit c.args.pass.caller c.args.pass.front))

pub returns-then-not-taken-clause-caller : goal.returns-then-not-taken-clause-caller
returns-then-not-taken-clause-caller g c = c.make_call-next.ensures.caller ∙ c.loop-index.invariant.0

pub returns-then-not-taken-clause-made : goal.returns-then-not-taken-clause-made
returns-then-not-taken-clause-made g c =
    let i = c.loop-index.invariant in
    let sees = subst (λ b. MatchBool b (IsTaken g.J.Naming.graph g.J.Naming.limit c.loop-index.pass.caller (1 + c.loop-index.index) c.index-script-index.result c.loop-index.pass.front c.make_call-next.result.0.front c.loop-index.refused c.make_call-next.new.refused) (Sees c.loop-index.pass.caller c.loop-index.pass.front c.make_call-next.result.0.front)) c.if-not-taken.true c.make_call-next.ensures.taken in
    cut-HasMade g.J.Naming.graph g.J.Naming.limit c.args.pass.caller c.loop-index.index c.args.script.now c.loop-index.refused c.args.pass.front c.loop-index.pass.front c.make_call-next.result.0.front i.1
    (subst (λ k. Sees k c.loop-index.pass.front c.make_call-next.result.0.front) i.0 sees)

pub loop-index-preserved : goal.loop-index-preserved
loop-index-preserved g c =
    let i = c.loop-index.invariant in
    let taken = subst (λ b. MatchBool b (IsTaken g.J.Naming.graph g.J.Naming.limit c.loop-index.pass.caller (1 + c.loop-index.index) c.index-script-index.result c.loop-index.pass.front c.make_call-next.result.0.front c.loop-index.refused c.make_call-next.new.refused) (Sees c.loop-index.pass.caller c.loop-index.pass.front c.make_call-next.result.0.front)) c.if-not-taken.false c.make_call-next.ensures.taken in (
      c.make_call-next.ensures.caller ∙ i.0,
      next-IsMade g.J.Naming.graph g.J.Naming.limit c.args.pass.caller c.loop-index.pass.caller (1 + c.loop-index.index) c.loop-index.index c.args.script.now c.loop-index.refused c.make_call-next.new.refused c.args.pass.front c.loop-index.pass.front c.make_call-next.result.0.front c.index-script-index.result i.1
          i.0 refl c.index-script-index.is c.loop-index-test.true taken,
    )

pub returns-clause-caller : goal.returns-clause-caller
returns-clause-caller g c = c.loop-index.invariant.0

pub returns-clause-made : goal.returns-clause-made
returns-clause-made g c =
    subst (λ cs. IsMade g.J.Naming.graph g.J.Naming.limit c.args.pass.caller cs c.loop-index.refused c.args.pass.front c.loop-index.pass.front)
    (take_all c.loop-index.index c.args.script.now c.loop-index-test.false) c.loop-index.invariant.1
