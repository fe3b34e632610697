use Rattle.std.proofs.Common.{◌≡◌, ℕ, [], vec_len, slice_index_or}
use Rattle.signal_graph.proofs.outs.empty_lists.Given as goal

abbrev pub invariant-loop : goal.invariant-loop
invariant-loop l = (vec_len l.lists ≡ l.counter) × ((m : ℕ) → slice_index_or l.lists.items m [] ≡ [])
