use Rattle.std.proofs.Common.{◌+◌, ◌*◌, subst, arith}
use Rattle.script_tree.proofs.BitLemmas.{search_more}
use Rattle.order_graph.specs.Slots.{Slots, IsLeastFrom, HasNoneFrom}
use Rattle.order_graph.proofs.SlotLemmas.{least_in_word, searched_all}
use Rattle.order_graph.proofs.slot_set.SlotSet.least_from.Goals as goal

pub returns-in-Some-clause-some : goal.returns-in-Some-clause-some
returns-in-Some-clause-some c =
    let P = λ (s : Slots). IsLeastFrom s c.args.from (c.loop-index.index * 64 + c.in-Some.bit) in
    subst P c.self.view_is (least_in_word c.self.inside.words c.args.from c.loop-index.index c.loop-index.low c.in-Some.bit (omega arith) c.loop-index.invariant c.in-Some.ensures.some)

pub loop-index-preserved : goal.loop-index-preserved
loop-index-preserved c = search_more c.self.inside.words c.args.from c.loop-index.index c.loop-index.low c.loop-index.invariant c.in_default.ensures.none

pub returns-clause-none : goal.returns-clause-none
returns-clause-none c =
    let P = λ (s : Slots). HasNoneFrom s c.args.from in
    subst P c.self.view_is (searched_all c.self.inside.words c.args.from c.loop-index.index c.loop-index.low (omega arith) c.loop-index.invariant)
