-- The values of all nodes, with one more node.
use Rattle.std.proofs.Common.{◌≡◌, ℕ, ◌+◌, List, [], ◌∷◌, ◌++◌, length, refl, sym, ◌∙◌, arith, add-zero, length-append, add-one, ◌<◌, take, map, get_or, length-take}
use Rattle.std.proofs.lemmas.List.{get_or-map}
use Rattle.std.proofs.Math.Seq.{take-suc}
use Rattle.script_tree.specs.declared.value.Value.{Value}
use Rattle.script_tree.specs.declared.value.Value.TheVariants.{Fault as Faulty}
use Rattle.script_tree.specs.declared.value.Fault.TheVariants.{NoChoice}
use Rattle.signal_graph.specs.declared.node.Node.{Node}
use Rattle.signal_graph.specs.Values.{Values, at, node_value, start_value, values_from}

pub values_from-snoc : (earlier : Values) (nodes : List Node) (node : Node) (kept : Values)
    → values_from earlier (nodes ++ node ∷ []) kept ≡ values_from earlier nodes kept ++ node_value node (at kept (length earlier + length nodes)) (values_from earlier nodes kept) ∷ []
values_from-snoc earlier [] node kept = rw add-zero refl
values_from-snoc earlier (first ∷ rest) node kept =
    let value = node_value first (at kept (length earlier)) earlier in
    let counts : length (earlier ++ value ∷ []) + length rest ≡ length earlier + length (first ∷ rest) = omega (arith, length-append earlier (value ∷ [])) in
    rw counts at (values_from-snoc (earlier ++ value ∷ []) rest node kept)

-- the same by an index, where what is kept is each node's start value
pub values_from-step : (nodes : List Node) (i : ℕ) (d : Node) → i < length nodes
    → values_from [] (take (i + 1) nodes) (map start_value nodes)
    ≡ values_from [] (take i nodes) (map start_value nodes) ++ node_value (get_or nodes i d) (start_value (get_or nodes i d)) (values_from [] (take i nodes) (map start_value nodes)) ∷ []
values_from-step nodes i d below =
    let counts : 0 + length (take i nodes) ≡ i = grind (arith, length-take) in
    let kept : at (map start_value nodes) i ≡ start_value (get_or nodes i d) = get_or-map start_value nodes i d (Faulty NoChoice) below in
    rw (add-one, take-suc nodes i d below) (values_from-snoc [] (take i nodes) (get_or nodes i d) (map start_value nodes) ∙ rw (counts, kept) refl)

-- the values so far, with the value of the node at an index
pub starts_step : (nodes : List Node) (i : ℕ) (node : Node) (starts seen more : Values) (kept value : Value) → i < length nodes
    → starts ≡ values_from [] (take i nodes) (map start_value nodes) → node ≡ get_or nodes i node → kept ≡ start_value node → seen ≡ starts
    → value ≡ node_value node kept seen → more ≡ starts ++ value ∷ []
    → more ≡ values_from [] (take (i + 1) nodes) (map start_value nodes)
starts_step nodes i node starts seen more kept value below are at_i keeps sees is grown =
    let step = values_from-step nodes i node below in
    grown ∙ rw (is, keeps, sees, are) (sym (rw (← at_i) at step))
