use Rattle.order_graph.proofs.SlotLemmas.{slots_of-zeros}
use Rattle.order_graph.proofs.slot_set.SlotSet.new.Goals as goal

pub returns : goal.returns
returns c = slots_of-zeros
