use Rattle.script_tree.proofs.BitLemmas.{SearchedTo}
use Rattle.order_graph.proofs.slot_set.SlotSet.least_from.Given as goal

abbrev pub invariant-loop-index : goal.invariant-loop-index
invariant-loop-index l = SearchedTo l.self-inside.words l.from l.index l.low
