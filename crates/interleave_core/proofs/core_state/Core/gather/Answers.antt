use Rattle.std.proofs.Common.{refl, arith}
use Rattle.flow_model.specs.declared.step.Step.TheVariants as step
use Rattle.interleave_core.proofs.StepsMade.{can_make}
use Rattle.interleave_core.proofs.StepForms.{can_list, read_step}
use Rattle.interleave_core.proofs.NodesRead.{input_below}
use Rattle.interleave_core.proofs.core_state.Core.gather.Goals as goal

pub index-list-requires : goal.index-list-requires
index-list-requires c =
    let can = can_make (step.Gather c.args.version c.args.node c.args.input) c.self.invariant c.self.view_is c.requires.allowed in
    let below = input_below c.args.version c.args.node c.args.input can in
    omega (arith, below)

pub gather-requires : goal.gather-requires
gather-requires c =
    let can = can_make (step.Gather c.args.version c.args.node c.args.input) c.self.invariant c.self.view_is c.requires.allowed in
    let below = input_below c.args.version c.args.node c.args.input can in
    (c.self.inside.graph.now, can_list can below c.index-list.ensures)

pub invariant_of-self : goal.invariant_of-self
invariant_of-self c =
    let can = can_make (step.Gather c.args.version c.args.node c.args.input) c.self.invariant c.self.view_is c.requires.allowed in
    let below = input_below c.args.version c.args.node c.args.input can in
    (read_step c.lawful_stays.ensures.step can refl below c.index-list.ensures (c.gather.ensures c.self.inside.graph.now)).kept

pub returns : goal.returns
returns c =
    let can = can_make (step.Gather c.args.version c.args.node c.args.input) c.self.invariant c.self.view_is c.requires.allowed in
    let below = input_below c.args.version c.args.node c.args.input can in
    (read_step c.lawful_stays.ensures.step can refl below c.index-list.ensures (c.gather.ensures c.self.inside.graph.now)).view
