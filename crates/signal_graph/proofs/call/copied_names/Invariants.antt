use Rattle.std.proofs.Common.{◌≡◌, ◌≤◌, take, length, vec_capacity}
use Rattle.signal_graph.proofs.call.copied_names.Given as goal

abbrev pub invariant-loop-name : goal.invariant-loop-name
invariant-loop-name l = (l.copied.items ≡ take l.name-index l.name-items) × (length l.copied.items ≡ l.name-index) × (length l.name-items ≤ vec_capacity l.copied)
