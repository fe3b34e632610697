use Rattle.std.proofs.Common.{◌≡◌, ℕ, ◌<◌, [], length, take, vec_len, slice_index_or}
use Rattle.signal_graph.specs.Graph.{static_outs}
use Rattle.signal_graph.specs.Kept.{unnamed}
use Rattle.signal_graph.proofs.outs.static_outs.Given as goal

abbrev pub invariant-loop-number : goal.invariant-loop-number
invariant-loop-number l =
    (vec_len l.lists ≡ length l.nodes)
    × ((m : ℕ) → m < length l.nodes → slice_index_or l.lists.items m [] ≡ static_outs (unnamed (take l.number l.nodes)) m)
