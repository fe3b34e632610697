use Rattle.script_tree.proofs.BitLemmas.{SearchedTo}
use Rattle.node_set.proofs.bits.lowest_from.Given as goal

abbrev pub invariant-loop-index : goal.invariant-loop-index
invariant-loop-index l = SearchedTo l.words l.from l.index l.low
