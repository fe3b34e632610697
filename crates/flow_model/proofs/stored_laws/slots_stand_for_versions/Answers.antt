use Rattle.flow_model.proofs.Slots.PairsBySlot.{slots-is_recorded, slots-reaches, slots-linked, entered-slots, ended-slots, step-slots, entry-lives, stops-by_slot}
use Rattle.flow_model.proofs.stored_laws.slots_stand_for_versions.Goals as goal

pub returns-clause-recorded : goal.returns-clause-recorded
returns-clause-recorded c = slots-is_recorded

pub returns-clause-reaches : goal.returns-clause-reaches
returns-clause-reaches c = slots-reaches

pub returns-clause-linked : goal.returns-clause-linked
returns-clause-linked c = slots-linked

pub returns-clause-enters : goal.returns-clause-enters
returns-clause-enters c = entered-slots

pub returns-clause-ends : goal.returns-clause-ends
returns-clause-ends c = ended-slots

pub returns-clause-step : goal.returns-clause-step
returns-clause-step c = step-slots

pub returns-clause-lives : goal.returns-clause-lives
returns-clause-lives c = entry-lives

pub returns-clause-stops : goal.returns-clause-stops
returns-clause-stops c = stops-by_slot
