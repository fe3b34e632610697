use Rattle.std.proofs.Common.{sym, ap, ◌∙◌, subst}
use Rattle.flow_model.specs.declared.step.Step.TheVariants as step
use Rattle.flow_model.specs.Machine.State.{Core}
use Rattle.flow_model.specs.Parts.Books.{Work}
use Rattle.flow_state.specs.Answers.{step_of, IsRight}
use Rattle.flow_state.specs.Jobs.{found_items, IsJob}
use Rattle.interleave_core.specs.Whole.{state_of}
use Rattle.interleave_core.proofs.Fits.{all_nodes}
use Rattle.interleave_core.proofs.StepsMade.{can_make}
use Rattle.interleave_core.proofs.Evaluations.{due_here, due-job, work-there, scripts_answered, body_answered, right_answered}
use Rattle.interleave_core.proofs.core_state.Core.answer.Goals as goal

pub evaluate-requires-clause-nodes : goal.evaluate-requires-clause-nodes
evaluate-requires-clause-nodes c =
    let m = c.self.inside in
    sym c.self.invariant.many ∙ all_nodes m.graph.now m.book m.lists.items c.self.invariant

pub evaluate-requires-clause-job : goal.evaluate-requires-clause-job
evaluate-requires-clause-job c =
    let due = due_here c.args.version c.args.node c.self.invariant c.self.view_is c.requires.due in
    let m = c.self.inside in
    let s : Core = state_of m.book.book m.lists.items in
    let work = sym (work-there m.book.book.works m.lists.items c.args.node c.self.invariant.many) in
    let job = due-job m.graph.now c.self.invariant.is_graph s c.self.invariant.lawful c.args.version c.args.node due in
    subst (λ (w : Work). IsJob m.graph.now c.args.node (found_items w.found)) work job

pub returns-clause-scripts : goal.returns-clause-scripts
returns-clause-scripts c allowed =
    let can = can_make (step.Evaluate c.args.version c.args.node) c.self.invariant c.self.view_is allowed in
    ap step_of c.evaluate.ensures ∙ scripts_answered c.args.version c.args.node c.args.acc can

pub returns-clause-body : goal.returns-clause-body
returns-clause-body c allowed =
    let can = can_make (step.Body c.args.version c.args.node) c.self.invariant c.self.view_is allowed in
    ap step_of c.evaluate.ensures ∙ body_answered c.args.version c.args.node c.args.acc can

pub returns-clause-right : goal.returns-clause-right
returns-clause-right c =
    let acc = c.args.acc in
    let right = right_answered c.args.version c.args.node acc c.self.invariant c.self.view_is c.requires.reads in
    subst (IsRight c.args.self.now.graph c.args.self.now.state) (sym c.evaluate.ensures) right
