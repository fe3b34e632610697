use Rattle.flow_model.proofs.Slots.TestsBySlot.{placed-by_slot, collected-by_slot, before-by_slot, framing-by_slot, pressed-by_slot}
use Rattle.flow_model.proofs.stored_laws.slots_decide.Goals as goal

pub returns-clause-places : goal.returns-clause-places
returns-clause-places c = placed-by_slot

pub returns-clause-collects : goal.returns-clause-collects
returns-clause-collects c = collected-by_slot

pub returns-clause-before : goal.returns-clause-before
returns-clause-before c = before-by_slot

pub returns-clause-framing : goal.returns-clause-framing
returns-clause-framing c = framing-by_slot

pub returns-clause-presses : goal.returns-clause-presses
returns-clause-presses c = pressed-by_slot
