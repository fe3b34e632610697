use Rattle.std.proofs.Common.{refl, arith}
use Rattle.flow_model.specs.declared.step.Step.TheVariants as step
use Rattle.interleave_core.specs.Whole.{state_of}
use Rattle.interleave_core.proofs.StepsMade.{can_make, list_there}
use Rattle.interleave_core.proofs.StepForms.{can_list, joined_of, discover_step}
use Rattle.interleave_core.proofs.core_state.Core.discover.Goals as goal

pub index_mut-list-requires : goal.index_mut-list-requires
index_mut-list-requires c =
    let can = can_make (step.Discover c.args.version c.args.node c.args.candidate) c.self.invariant c.self.view_is c.requires.allowed in
    let below = list_there can refl in
    omega (arith, below)

pub discover-requires : goal.discover-requires
discover-requires c =
    let can = can_make (step.Discover c.args.version c.args.node c.args.candidate) c.self.invariant c.self.view_is c.requires.allowed in
    (c.self.inside.graph.now, can_list can (list_there can refl) c.index_mut-list.ensures.value)

pub extend_wanted-requires : goal.extend_wanted-requires
extend_wanted-requires c =
    let can = can_make (step.Discover c.args.version c.args.node c.args.candidate) c.self.invariant c.self.view_is c.requires.allowed in
    let joins = c.discover.ensures c.self.inside.graph.now in (
      c.self.inside.graph.now,
      c.args.candidate,
      record {
        state = state_of c.self.inside.book.book c.self.inside.lists.items;
        fits = joined_of c.args.version c.args.node c.args.candidate can c.index_mut-list.ensures.value joins;
      },
    )

pub invariant_of-self : goal.invariant_of-self
invariant_of-self c =
    let can = can_make (step.Discover c.args.version c.args.node c.args.candidate) c.self.invariant c.self.view_is c.requires.allowed in
    let joins = c.discover.ensures c.self.inside.graph.now in
    let tells = c.extend_wanted.ensures c.self.inside.graph.now c.args.candidate in
    let law = c.lawful_stays.ensures.step in
    (discover_step c.args.version c.args.node c.args.candidate law can c.index_mut-list.ensures.value joins tells).kept

pub returns : goal.returns
returns c =
    let can = can_make (step.Discover c.args.version c.args.node c.args.candidate) c.self.invariant c.self.view_is c.requires.allowed in
    let joins = c.discover.ensures c.self.inside.graph.now in
    let tells = c.extend_wanted.ensures c.self.inside.graph.now c.args.candidate in
    let law = c.lawful_stays.ensures.step in
    (discover_step c.args.version c.args.node c.args.candidate law can c.index_mut-list.ensures.value joins tells).view
