use Rattle.std.proofs.Common.{inl, sym, ◌∙◌, subst}
use Rattle.flow_model.specs.Machine.State.{Core}
use Rattle.flow_model.specs.Parts.Books.{Work}
use Rattle.flow_state.specs.Jobs.{found_items, IsJob}
use Rattle.interleave_core.specs.Whole.{state_of}
use Rattle.interleave_core.proofs.Fits.{all_nodes}
use Rattle.interleave_core.proofs.Evaluations.{due_here, due-job, work-there, value_right}
use Rattle.interleave_core.proofs.core_state.Core.script_value.Goals as goal

pub script_value-requires-clause-nodes : goal.script_value-requires-clause-nodes
script_value-requires-clause-nodes c =
    let m = c.self.inside in
    sym c.self.invariant.many ∙ all_nodes m.graph.now m.book m.lists.items c.self.invariant

pub script_value-requires-clause-job : goal.script_value-requires-clause-job
script_value-requires-clause-job c =
    let due = due_here c.args.version c.args.node c.self.invariant c.self.view_is (inl c.requires.allowed) in
    let m = c.self.inside in
    let s : Core = state_of m.book.book m.lists.items in
    let work = sym (work-there m.book.book.works m.lists.items c.args.node c.self.invariant.many) in
    let job = due-job m.graph.now c.self.invariant.is_graph s c.self.invariant.lawful c.args.version c.args.node due in
    subst (λ (w : Work). IsJob m.graph.now c.args.node (found_items w.found)) work job

pub returns : goal.returns
returns c =
    value_right c.args.version c.args.node c.args.acc c.script_value.result c.self.invariant c.self.view_is c.requires.reads
    c.script_value.ensures
