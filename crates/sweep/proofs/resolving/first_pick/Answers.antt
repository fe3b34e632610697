use Rattle.std.proofs.Common.{◌∙◌, ap, sym}
use Rattle.flow_model.specs.Machine.Words.{value_or, pick_over}
use Rattle.flow_state.specs.declared.found.Found.{Found}
use Rattle.flow_state.specs.Booked.{work_at}
use Rattle.flow_state.specs.Found.{selection_of}
use Rattle.sweep.specs.NewValues.{gathered_value}
use Rattle.flow_state.proofs.JobLemmas.{first_is}
use Rattle.sweep.proofs.resolving.first_pick.Goals as goal

pub returns-in-Candidate : goal.returns-in-Candidate
returns-in-Candidate c =
    let read = gathered_value (work_at c.args.book.now c.args.node) in
    c.value_or.ensures ∙ ap value_or c.gathered.ensures ∙ sym (ap (λ (x : Found). pick_over read (selection_of x)) c.in-Candidate.is) ∙ first_is read c.args.list.now c.get.result.now c.get.ensures

pub returns-in-Fault : goal.returns-in-Fault
returns-in-Fault c =
    let read = gathered_value (work_at c.args.book.now c.args.node) in
    sym (ap (λ (x : Found). pick_over read (selection_of x)) c.in-Fault.is) ∙ first_is read c.args.list.now c.get.result.now c.get.ensures
