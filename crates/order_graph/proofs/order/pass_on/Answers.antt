use Rattle.std.proofs.Common.{arith}
use Rattle.order_graph.proofs.KeptLemmas.{grown, earlier_inside, later_inside, passed_test}
use Rattle.order_graph.proofs.order.pass_on.Goals as goal

pub join_each-requires-clause-inside : goal.join_each-requires-clause-inside
join_each-requires-clause-inside c =
    later_inside c.args.before.now c.args.after.now c.args.b _ c.requires.mirror c.requires.b_is_slot (grown c.args.after.now c.args.b c.index-after-b.result _ _ (omega arith) c.copied-later.ensures c.insert-2.ensures)

pub join_each-requires-2-clause-inside : goal.join_each-requires-2-clause-inside
join_each-requires-2-clause-inside c =
    earlier_inside c.args.before.now c.args.after.now c.args.a _ c.requires.mirror (omega arith) (grown c.args.before.now c.args.a c.index-before-a.result _ _ c.requires.a_is_slot c.copied-earlier.ensures c.insert.ensures)

pub returns-clause-passed : goal.returns-clause-passed
returns-clause-passed c =
    let earlier = grown c.args.before.now c.args.a c.index-before-a.result _ _ c.requires.a_is_slot c.copied-earlier.ensures c.insert.ensures in
    let later = grown c.args.after.now c.args.b c.index-after-b.result _ _ (omega arith) c.copied-later.ensures c.insert-2.ensures in
    (passed_test c.args.before.now c.args.after.now c.join_each.new.sets c.join_each-2.new.sets c.args.a c.args.b _ _ c.requires.mirror c.requires.a_is_slot c.requires.b_is_slot (omega arith) (omega arith) (omega arith) earlier later c.join_each.ensures c.join_each-2.ensures).0

pub returns-clause-mirror : goal.returns-clause-mirror
returns-clause-mirror c =
    let earlier = grown c.args.before.now c.args.a c.index-before-a.result _ _ c.requires.a_is_slot c.copied-earlier.ensures c.insert.ensures in
    let later = grown c.args.after.now c.args.b c.index-after-b.result _ _ (omega arith) c.copied-later.ensures c.insert-2.ensures in
    (passed_test c.args.before.now c.args.after.now c.join_each.new.sets c.join_each-2.new.sets c.args.a c.args.b _ _ c.requires.mirror c.requires.a_is_slot c.requires.b_is_slot (omega arith) (omega arith) (omega arith) earlier later c.join_each.ensures c.join_each-2.ensures).1
