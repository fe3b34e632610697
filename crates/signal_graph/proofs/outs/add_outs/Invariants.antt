use Rattle.std.proofs.Common.{◌≡◌, ℕ, ◌<◌, [], ◌∷◌, ◌++◌, if◌then◌else◌, take, vec_len, slice_index_or}
use Rattle.signal_graph.specs.Graph.{is_in}
use Rattle.signal_graph.proofs.outs.add_outs.Given as goal

abbrev pub invariant-loop-input : goal.invariant-loop-input
invariant-loop-input l =
    (vec_len l.lists ≡ vec_len l.fn.lists)
    × ((m : ℕ) → m < vec_len l.fn.lists → slice_index_or l.lists.items m [] ≡ slice_index_or l.fn.lists.items m [] ++ (if is_in m (take l.input-index l.inputs) then l.node ∷ [] else []))
