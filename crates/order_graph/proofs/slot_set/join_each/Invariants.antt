use Rattle.std.proofs.Common.{◌*◌, slice_index}
use Rattle.std.specs.FinSet as set
use Rattle.order_graph.specs.Slots.{slots_of}
use Rattle.order_graph.proofs.Members.{ChangedBelow, Changing}
use Rattle.order_graph.proofs.slot_set.join_each.Given as goal

abbrev pub invariant-loop-rest : goal.invariant-loop-rest
invariant-loop-rest l = Changing l.index (λ s. set.union s l.fn.more) l.word-items (slice_index l.word-items l.index) l.rest l.fn.sets l.sets

abbrev pub decreases-loop-rest : goal.decreases-loop-rest
decreases-loop-rest l = l.rest

abbrev pub invariant-loop-index : goal.invariant-loop-index
invariant-loop-index l = ChangedBelow (l.index * 64) (λ s. set.union s l.fn.more) (slots_of l.word-items) l.fn.sets l.sets
