use Rattle.std.proofs.Common.{sym, subst, arith}
use Rattle.std.specs.Vec.{vec_capacity}
use Rattle.node_set.proofs.Kept.{AreZeros, zeros_of}
use Rattle.flow_state.proofs.FreeSlots.{all_free}
use Rattle.flow_state.proofs.Openings.{free_kept}
use Rattle.flow_state.proofs.CountLemmas.{counted_free}
use Rattle.flow_state.proofs.seating.Seating.new.Goals as goal

-- no node has a count yet
zeros : (c : goal.In_ok-counts) → AreZeros c.in_ok-counts.counts.items
zeros c = subst AreZeros (sym (c.in_ok-counts.ensures.items_if_clones_equal (λ y e. e))) (zeros_of _)

pub invariant_of-result : goal.invariant_of-result
invariant_of-result c = record { kept = free_kept c.args.callers c.args.nodes (vec_capacity c.in_ok-live.live) c.in_ok-seats.seats.items c.in_ok-live.live.items c.in_ok-order.order c.requires.some c.requires.few c.requires.nodes c.in_ok-seats.ensures c.in_ok-live.ensures.items c.in_ok-order.ensures c.in_ok-live.ensures.exact; hint_count = omega (arith, c.in_ok-hints.ensures.len); free_kept = all_free c.args.callers c.in_ok-live.live.items c.in_ok-free.free c.in_ok-live.ensures.items c.in_ok-free.ensures.size c.in_ok-free.ensures.all; count_each = omega (arith, c.in_ok-counts.ensures.len); counted = counted_free c.in_ok-counts.counts.items c.args.callers c.args.nodes c.in_ok-seats.seats.items (zeros c) c.in_ok-seats.ensures }
