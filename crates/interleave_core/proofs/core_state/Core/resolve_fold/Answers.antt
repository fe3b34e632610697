use Rattle.std.proofs.Common.{refl, ap, ◌∙◌, arith}
use Rattle.signal_graph.specs.Graph.{kind_of, node_at}
use Rattle.interleave_core.specs.Whole.{Whole}
use Rattle.flow_model.specs.declared.step.Step.TheVariants as step
use Rattle.interleave_core.proofs.StepsMade.{can_make, list_there}
use Rattle.interleave_core.proofs.StepForms.{can_list, list_step}
use Rattle.interleave_core.proofs.core_state.Core.resolve_fold.Goals as goal

pub index_mut-list-requires : goal.index_mut-list-requires
index_mut-list-requires c =
    let can = can_make (step.Resolve c.args.version c.args.node) c.self.invariant c.self.view_is c.requires.allowed in
    let below = list_there can refl in
    omega (arith, below)

pub resolve_fold-requires : goal.resolve_fold-requires
resolve_fold-requires c =
    let can = can_make (step.Resolve c.args.version c.args.node) c.self.invariant c.self.view_is c.requires.allowed in
    let fold = ap (λ (w : Whole). kind_of (node_at w.graph c.args.node)) c.self.view_is ∙ c.requires.fold in
    (c.self.inside.graph.now, fold, can_list can (list_there can refl) c.index_mut-list.ensures.value)

pub invariant_of-self : goal.invariant_of-self
invariant_of-self c =
    let can = can_make (step.Resolve c.args.version c.args.node) c.self.invariant c.self.view_is c.requires.allowed in
    let fold = ap (λ (w : Whole). kind_of (node_at w.graph c.args.node)) c.self.view_is ∙ c.requires.fold in
    let makes = c.resolve_fold.ensures c.self.inside.graph.now fold in
    (list_step c.lawful_stays.ensures.step can refl c.index_mut-list.ensures.value makes).kept

pub returns : goal.returns
returns c =
    let can = can_make (step.Resolve c.args.version c.args.node) c.self.invariant c.self.view_is c.requires.allowed in
    let fold = ap (λ (w : Whole). kind_of (node_at w.graph c.args.node)) c.self.view_is ∙ c.requires.fold in
    let makes = c.resolve_fold.ensures c.self.inside.graph.now fold in
    (list_step c.lawful_stays.ensures.step can refl c.index_mut-list.ensures.value makes).view
