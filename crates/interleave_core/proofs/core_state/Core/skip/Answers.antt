use Rattle.std.proofs.Common.{refl, arith}
use Rattle.flow_model.specs.declared.step.Step.TheVariants as step
use Rattle.interleave_core.proofs.StepsMade.{can_make, list_there}
use Rattle.interleave_core.proofs.StepForms.{can_list, list_step}
use Rattle.interleave_core.proofs.core_state.Core.skip.Goals as goal

pub index_mut-list-requires : goal.index_mut-list-requires
index_mut-list-requires c =
    let can = can_make (step.Skip c.args.version c.args.node) c.self.invariant c.self.view_is c.requires.allowed in
    let below = list_there can refl in
    omega (arith, below)

pub skip-requires : goal.skip-requires
skip-requires c =
    let can = can_make (step.Skip c.args.version c.args.node) c.self.invariant c.self.view_is c.requires.allowed in
    can_list can (list_there can refl) c.index_mut-list.ensures.value

pub invariant_of-self : goal.invariant_of-self
invariant_of-self c =
    let can = can_make (step.Skip c.args.version c.args.node) c.self.invariant c.self.view_is c.requires.allowed in
    (list_step c.lawful_stays.ensures.step can refl c.index_mut-list.ensures.value c.skip.ensures).kept

pub returns : goal.returns
returns c =
    let can = can_make (step.Skip c.args.version c.args.node) c.self.invariant c.self.view_is c.requires.allowed in
    (list_step c.lawful_stays.ensures.step can refl c.index_mut-list.ensures.value c.skip.ensures).view
