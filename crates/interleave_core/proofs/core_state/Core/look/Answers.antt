use Rattle.std.proofs.Common.{refl, sym, ◌∙◌, arith}
use Rattle.flow_model.specs.declared.step.Step.TheVariants as step
use Rattle.interleave_core.proofs.StepsMade.{can_make}
use Rattle.interleave_core.proofs.StepForms.{can_list, read_step}
use Rattle.interleave_core.proofs.NodesRead.{look_below}
use Rattle.interleave_core.proofs.core_state.Core.look.Goals as goal

pub index-list-requires : goal.index-list-requires
index-list-requires c =
    let looks = sym c.next_look.ensures ∙ c.in-Some.is in
    let can = can_make (step.Look c.args.version) c.self.invariant c.self.view_is c.requires.allowed in
    let below = look_below c.args.version c.in-Some.node can looks in
    omega (arith, below)

pub look-requires : goal.look-requires
look-requires c =
    let looks = sym c.next_look.ensures ∙ c.in-Some.is in
    let can = can_make (step.Look c.args.version) c.self.invariant c.self.view_is c.requires.allowed in
    let below = look_below c.args.version c.in-Some.node can looks in
    (c.self.inside.graph.now, c.in-Some.node, looks, can_list can below c.index-list.ensures)

pub invariant_of-self : goal.invariant_of-self
invariant_of-self c =
    let looks = sym c.next_look.ensures ∙ c.in-Some.is in
    let can = can_make (step.Look c.args.version) c.self.invariant c.self.view_is c.requires.allowed in
    let below = look_below c.args.version c.in-Some.node can looks in
    let makes = c.look.ensures c.self.inside.graph.now c.in-Some.node looks in
    (read_step c.lawful_stays.ensures.step can refl below c.index-list.ensures makes).kept

pub returns : goal.returns
returns c =
    let looks = sym c.next_look.ensures ∙ c.in-Some.is in
    let can = can_make (step.Look c.args.version) c.self.invariant c.self.view_is c.requires.allowed in
    let below = look_below c.args.version c.in-Some.node can looks in
    let makes = c.look.ensures c.self.inside.graph.now c.in-Some.node looks in
    (read_step c.lawful_stays.ensures.step can refl below c.index-list.ensures makes).view
