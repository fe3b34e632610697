use Rattle.std.proofs.Common.{◌≡◌, ◌≤◌, take, length, vec_capacity}
use Rattle.signal_graph.proofs.call.copied_sets.Given as goal

abbrev pub invariant-loop-set : goal.invariant-loop-set
invariant-loop-set l = (l.copied.items ≡ take l.set-index l.set-items) × (length l.copied.items ≡ l.set-index) × (length l.set-items ≤ vec_capacity l.copied)
