use Rattle.flow_state.specs.Answers.{step_of}
use Rattle.interleave_core.proofs.StepsMade.{can_make}
use Rattle.interleave_core.proofs.StepForms.{can_answer, answer_step}
use Rattle.interleave_core.proofs.Evaluations.{answer-quiet}
use Rattle.interleave_core.proofs.core_state.Core.put.Goals as goal

pub put-requires : goal.put-requires
put-requires c =
    let can = can_make (step_of c.args.answer) c.self.invariant c.self.view_is c.requires.allowed in
    (c.self.inside.graph.now, can_answer c.args.answer can c.requires.right)

pub invariant_of-self : goal.invariant_of-self
invariant_of-self c =
    let can = can_make (step_of c.args.answer) c.self.invariant c.self.view_is c.requires.allowed in
    let quiet = answer-quiet c.args.answer.version c.args.answer.node c.args.answer.outcome in
    let makes = c.put.ensures c.self.inside.graph.now in
    (answer_step c.args.answer c.lawful_stays.ensures.step can quiet c.requires.right makes).kept

pub returns : goal.returns
returns c =
    let can = can_make (step_of c.args.answer) c.self.invariant c.self.view_is c.requires.allowed in
    let quiet = answer-quiet c.args.answer.version c.args.answer.node c.args.answer.outcome in
    let makes = c.put.ensures c.self.inside.graph.now in
    (answer_step c.args.answer c.lawful_stays.ensures.step can quiet c.requires.right makes).view
