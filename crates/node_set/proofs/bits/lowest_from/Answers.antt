use Rattle.std.proofs.Common.{arith}
use Rattle.script_tree.proofs.BitLemmas.{search_more}
use Rattle.node_set.proofs.Searches.{lowest_in_word, searched_all}
use Rattle.node_set.proofs.bits.lowest_from.Goals as goal

pub returns-in-Some-clause-some : goal.returns-in-Some-clause-some
returns-in-Some-clause-some c = lowest_in_word c.args.words.now c.args.from c.loop-index.index c.loop-index.low c.in-Some.bit (omega arith) c.loop-index.invariant c.in-Some.ensures.some

pub loop-index-preserved : goal.loop-index-preserved
loop-index-preserved c = search_more c.args.words.now c.args.from c.loop-index.index c.loop-index.low c.loop-index.invariant c.in_default.ensures.none

pub returns-clause-none : goal.returns-clause-none
returns-clause-none c = searched_all c.args.words.now c.args.from c.loop-index.index c.loop-index.low (omega arith) c.loop-index.invariant
