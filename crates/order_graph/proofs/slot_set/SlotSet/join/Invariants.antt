use Rattle.order_graph.proofs.slot_set.SlotSet.join.Given as goal
use Rattle.order_graph.proofs.SlotLemmas.{JoinedBelow}

abbrev pub invariant-loop-index : goal.invariant-loop-index
invariant-loop-index l = JoinedBelow l.index l.initial.self-inside.words l.more-items l.self-inside.words
