use Rattle.std.proofs.Common.{ap, ◌∙◌}
use Rattle.node_set.specs.Members.{Members}
use Rattle.flow_state.proofs.FreeSlots.{slots_more}
use Rattle.flow_state.proofs.seating.all_slots.Goals as goal

pub loop-slot-preserved : goal.loop-slot-preserved
loop-slot-preserved c = (ap (λ (m : Members). m.size) c.insert.ensures.nodes ∙ c.loop-slot.invariant.0, slots_more c.loop-slot.slot c.loop-slot.slots c.insert.new.self c.loop-slot.invariant.1 c.insert.ensures.nodes)
