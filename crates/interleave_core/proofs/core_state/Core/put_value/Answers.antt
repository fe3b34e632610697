use Rattle.std.proofs.Common.{refl}
use Rattle.flow_model.specs.declared.step.Step.TheVariants as step
use Rattle.flow_state.specs.Jobs.{value_answer}
use Rattle.interleave_core.proofs.StepsMade.{can_make}
use Rattle.interleave_core.proofs.StepForms.{can_answer, answer_step}
use Rattle.interleave_core.proofs.core_state.Core.put_value.Goals as goal

pub put_value-requires : goal.put_value-requires
put_value-requires c =
    let answer = value_answer c.args.version c.args.node c.args.value in
    let can = can_make (step.Evaluate c.args.version c.args.node) c.self.invariant c.self.view_is c.requires.allowed in
    (c.self.inside.graph.now, can_answer answer can c.requires.right)

pub invariant_of-self : goal.invariant_of-self
invariant_of-self c =
    let answer = value_answer c.args.version c.args.node c.args.value in
    let can = can_make (step.Evaluate c.args.version c.args.node) c.self.invariant c.self.view_is c.requires.allowed in
    let quiet = refl in
    let makes = c.put_value.ensures c.self.inside.graph.now in
    (answer_step answer c.lawful_stays.ensures.step can quiet c.requires.right makes).kept

pub returns : goal.returns
returns c =
    let answer = value_answer c.args.version c.args.node c.args.value in
    let can = can_make (step.Evaluate c.args.version c.args.node) c.self.invariant c.self.view_is c.requires.allowed in
    let quiet = refl in
    let makes = c.put_value.ensures c.self.inside.graph.now in
    (answer_step answer c.lawful_stays.ensures.step can quiet c.requires.right makes).view
