use Rattle.std.proofs.Common.{length, slice_index, refl, arith}
use Rattle.std.specs.FinSet as set
use Rattle.order_graph.proofs.Members.{inside_words, member_inside, smaller, change_next, word_begins, word_ends, words_end}
use Rattle.order_graph.proofs.slot_set.take_out.Goals as goal

pub bounds-sets-member : goal.bounds-sets-member
bounds-sets-member c = member_inside c.loop-index.index _ c.members.inside.words (slice_index c.members.inside.words c.loop-index.index) c.loop-rest.rest _ _ _ (omega arith) refl (omega arith) (omega arith) (inside_words c.members.inside.words c.args.members.now (length c.args.sets.now) _ c.members.view_is c.requires.inside (omega arith)) c.loop-rest.invariant.0

pub bounds-others-member : goal.bounds-others-member
bounds-others-member c = member_inside c.loop-index.index _ c.members.inside.words (slice_index c.members.inside.words c.loop-index.index) c.loop-rest.rest _ _ _ (omega arith) refl (omega arith) (omega arith) (inside_words c.members.inside.words c.args.members.now (length c.args.sets.now) _ c.members.view_is c.requires.inside (omega arith)) c.loop-rest.invariant.1

pub loop-rest-smaller : goal.loop-rest-smaller
loop-rest-smaller c = smaller c.loop-rest.rest (omega arith)

pub loop-rest-preserved : goal.loop-rest-preserved
loop-rest-preserved c = (
  change_next c.loop-index.index (λ s. set.remove s c.args.slot) c.members.inside.words (slice_index c.members.inside.words c.loop-index.index) c.loop-rest.rest _ _ _ c.index-sets-member.result (omega arith) refl (omega arith) (omega arith) (inside_words c.members.inside.words c.args.members.now (length c.args.sets.now) _ c.members.view_is c.requires.inside (omega arith)) c.remove.ensures c.loop-rest.invariant.0,
  change_next c.loop-index.index (λ s. set.remove s c.args.slot) c.members.inside.words (slice_index c.members.inside.words c.loop-index.index) c.loop-rest.rest _ _ _ c.index-others-member.result (omega arith) refl (omega arith) (omega arith) (inside_words c.members.inside.words c.args.members.now (length c.args.sets.now) _ c.members.view_is c.requires.inside (omega arith)) c.remove-in-loop-rest.ensures c.loop-rest.invariant.1,
)

pub loop-rest-init : goal.loop-rest-init
loop-rest-init c = (
  word_begins c.loop-index.index (λ s. set.remove s c.args.slot) c.members.inside.words (slice_index c.members.inside.words c.loop-index.index) _ _ c.loop-index.invariant.0,
  word_begins c.loop-index.index (λ s. set.remove s c.args.slot) c.members.inside.words (slice_index c.members.inside.words c.loop-index.index) _ _ c.loop-index.invariant.1,
)

pub loop-index-preserved : goal.loop-index-preserved
loop-index-preserved c = (
  word_ends c.loop-index.index (λ s. set.remove s c.args.slot) c.members.inside.words (slice_index c.members.inside.words c.loop-index.index) c.loop-rest.rest _ _ refl (omega arith) c.loop-rest.invariant.0,
  word_ends c.loop-index.index (λ s. set.remove s c.args.slot) c.members.inside.words (slice_index c.members.inside.words c.loop-index.index) c.loop-rest.rest _ _ refl (omega arith) c.loop-rest.invariant.1,
)

pub returns-clause-sets : goal.returns-clause-sets
returns-clause-sets c = words_end c.loop-index.index (λ s. set.remove s c.args.slot) c.members.inside.words c.args.members.now _ _ (omega arith) (omega arith) c.members.view_is c.loop-index.invariant.0

pub returns-clause-others : goal.returns-clause-others
returns-clause-others c = words_end c.loop-index.index (λ s. set.remove s c.args.slot) c.members.inside.words c.args.members.now _ _ (omega arith) (omega arith) c.members.view_is c.loop-index.invariant.1
