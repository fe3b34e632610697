use Rattle.std.proofs.Common.{refl}
use Rattle.flow_model.specs.declared.step.Step.TheVariants as step
use Rattle.interleave_core.proofs.StepsMade.{can_make}
use Rattle.interleave_core.proofs.StepForms.{can_book, book_step}
use Rattle.interleave_core.proofs.core_state.Core.end.Goals as goal

pub end-requires : goal.end-requires
end-requires c =
    let can = can_make (step.End c.args.version) c.self.invariant c.self.view_is c.requires.allowed in
    (c.self.inside.graph.now, can_book can)

pub invariant_of-self : goal.invariant_of-self
invariant_of-self c =
    let can = can_make (step.End c.args.version) c.self.invariant c.self.view_is c.requires.allowed in
    (book_step c.lawful_stays.ensures.step can refl (c.end.ensures c.self.inside.graph.now)).kept

pub returns : goal.returns
returns c =
    let can = can_make (step.End c.args.version) c.self.invariant c.self.view_is c.requires.allowed in
    (book_step c.lawful_stays.ensures.step can refl (c.end.ensures c.self.inside.graph.now)).view
