use Rattle.std.proofs.Common.{length, slice_index, refl, ap, ◌∙◌, arith}
use Rattle.std.specs.FinSet as set
use Rattle.order_graph.proofs.Members.{inside_words, member_inside, smaller, change_next, word_begins, word_ends, words_end}
use Rattle.order_graph.proofs.slot_set.join_each.Goals as goal

pub bounds-sets-index : goal.bounds-sets-index
bounds-sets-index c = member_inside c.loop-index.index _ c.members.inside.words (slice_index c.members.inside.words c.loop-index.index) c.loop-rest.rest _ _ _ (omega arith) refl (omega arith) (omega arith) (inside_words c.members.inside.words c.args.members.now (length c.args.sets.now) _ c.members.view_is c.requires.inside (omega arith)) c.loop-rest.invariant

pub loop-rest-smaller : goal.loop-rest-smaller
loop-rest-smaller c = smaller c.loop-rest.rest (omega arith)

pub loop-rest-preserved : goal.loop-rest-preserved
loop-rest-preserved c =
    change_next c.loop-index.index (λ s. set.union s c.args.more.now) c.members.inside.words (slice_index c.members.inside.words c.loop-index.index) c.loop-rest.rest _ _ _ c.index-sets-index.result (omega arith) refl (omega arith) (omega arith) (inside_words c.members.inside.words c.args.members.now (length c.args.sets.now) _ c.members.view_is c.requires.inside (omega arith)) (c.join.ensures ∙ ap (set.union _) c.copied-added.ensures) c.loop-rest.invariant

pub loop-rest-init : goal.loop-rest-init
loop-rest-init c =
    word_begins c.loop-index.index (λ s. set.union s c.args.more.now) c.members.inside.words (slice_index c.members.inside.words c.loop-index.index) _ _ c.loop-index.invariant

pub loop-index-preserved : goal.loop-index-preserved
loop-index-preserved c =
    word_ends c.loop-index.index (λ s. set.union s c.args.more.now) c.members.inside.words (slice_index c.members.inside.words c.loop-index.index) c.loop-rest.rest _ _ refl (omega arith) c.loop-rest.invariant

pub returns : goal.returns
returns c = words_end c.loop-index.index (λ s. set.union s c.args.more.now) c.members.inside.words c.args.members.now _ _ (omega arith) (omega arith) c.members.view_is c.loop-index.invariant
