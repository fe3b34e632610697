-- A node that rests on nothing that changed keeps its value and its picks.
use Rattle.std.proofs.Common.{◌≡◌, ℕ, ◌+◌, ◌<◌, ◌≤◌, Bool, true, false, List, [], ◌∷◌, ◌++◌, length, take, get_or, Option, refl, sym, ap, ◌∙◌, subst, arith, length-take}
use Rattle.std.specs.Prelude.{not, ◌&&◌, ◌||◌, if◌then◌else◌, slice_set}
use Rattle.std.specs.List.{AllByRecursion, list_any}
use Rattle.std.proofs.lemmas.List.{get_or-take, take_more_set, get_or-set_same, get_or-set_other}
use Rattle.script_tree.specs.declared.value.Fault.TheVariants.{Kind}
use Rattle.script_tree.specs.declared.value.Value.{Value}
use Rattle.script_tree.specs.declared.value.Value.TheVariants.{Fault as Faulty}
use Rattle.script_tree.specs.Scripts.{Scripted}
use Rattle.signal_graph.specs.declared.node.Node.{Node}
use Rattle.signal_graph.specs.declared.node.Node.TheVariants.{Source, Signal, Fold, Choose}
use Rattle.signal_graph.specs.Graph.{Graph, IsGraph, IsNode, node_at, is_source, inputs_of}
use Rattle.signal_graph.specs.Values.{Values, at, run, node_value, values, picks_of, nodes_in}
use Rattle.signal_graph.specs.Machine.{same, differs}
use Rattle.signal_graph.specs.OnePass.{new_value}
use Rattle.signal_graph.proofs.GraphNodes.{node_is}
use Rattle.signal_graph.proofs.Values.{values_are}
use Rattle.signal_graph.proofs.OnePassLaws.{skips_node, same_picks}
use Rattle.signal_graph.proofs.SameValues.{same-is}
use Rattle.serial_machine.specs.Between.{is_evaluated}
use Rattle.serial_machine.proofs.OnePass.{fold_value}

neither : (s t : Bool) → (not s || t) ≡ false → (s ≡ true) × (t ≡ false)
neither true t h = (refl, h)
neither false t h = absurd (cc)

-- where none of these nodes has another value, all have the same
agree : (before now : Values) (ns : List ℕ) → list_any (differs before now) ns ≡ false → AllByRecursion (λ m. at before m ≡ at now m) ns
agree before now [] h = tt
agree before now (n ∷ ns) h =
    let both = neither (same (at before n) (at now n)) (list_any (differs before now) ns) h in
    (same-is (at before n) (at now n) both.0, agree before now ns both.1)

-- a node that is not evaluated keeps its value
rest_node : (names : List (List ℕ)) (n : ℕ) (node : Node) (set old : Value) (before now : Values) → IsNode names n node → old ≡ node_value node old before → is_source node ≡ false → is_evaluated before now node ≡ false → new_value node set old before now ≡ old
rest_node names n (Source start) set old before now is_node is no_source h = absurd (cc)
rest_node names n (Signal script inputs) set old before now is_node is no_source h =
    sym (is ∙ skips_node names n (Signal script inputs) old set before now is_node (λ e. absurd (cc)) (λ e. absurd (cc)) (agree before now (inputs ++ []) h))
rest_node names n (Fold start script inputs) set old before now is_node is no_source h = fold_value start script inputs set old before now false (sym h)
rest_node names n (Choose selectors body inputs) set old before now is_node is no_source h =
    sym (is ∙ skips_node names n (Choose selectors body inputs) old set before now is_node (λ e. absurd (cc)) (λ e. absurd (cc)) (agree before now (inputs ++ nodes_in (picks_of (Choose selectors body inputs) before)) h))

pub rest_value : (graph : Graph) → IsGraph graph → (n : ℕ) (set : Value) (before now : Values) → n < length graph.nodes → values graph before ≡ before → is_source (node_at graph n) ≡ false → is_evaluated before now (node_at graph n) ≡ false → new_value (node_at graph n) set (at before n) before now ≡ at before n
rest_value graph is_graph n set before now within follow no_source h =
    let is : at before n ≡ node_value (node_at graph n) (at before n) before =
    sym (ap (λ vs. at vs n) follow) ∙ values_are graph before n is_graph.nodes within ∙ ap (node_value (node_at graph n) (at before n)) follow in
    rest_node graph.names (0 + n) (node_at graph n) set (at before n) before now (node_is graph.names 0 graph.nodes n (Source (Faulty Kind)) is_graph.nodes within) is no_source h

front_false : (b s t : Bool) → (t ≡ false → s ≡ false) → (b || t) ≡ false → (b || s) ≡ false
front_false true s t f h = absurd (cc)
front_false false s t f h = f h

any_front : (p : ℕ → Bool) (xs ys : List ℕ) → list_any p (xs ++ ys) ≡ false → list_any p xs ≡ false
any_front p [] ys h = refl
any_front p (x ∷ xs) ys h = front_false (p x) (list_any p xs) (list_any p (xs ++ ys)) (any_front p xs ys) h

not_touched : (b t : Bool) → b ≡ false → (not b && t) ≡ false → t ≡ false
not_touched true t e h = absurd (cc)
not_touched false t e h = h

-- and its picks
pub rest_picks : (graph : Graph) → IsGraph graph → (n : ℕ) (before now : Values) → n < length graph.nodes → is_source (node_at graph n) ≡ false → is_evaluated before now (node_at graph n) ≡ false → picks_of (node_at graph n) before ≡ picks_of (node_at graph n) now
rest_picks graph is_graph n before now within no_source h =
    let node = node_at graph n in
    same_picks graph.names (0 + n) node before now (node_is graph.names 0 graph.nodes n (Source (Faulty Kind)) is_graph.nodes within)
    (agree before now (inputs_of node) (any_front (differs before now) (inputs_of node) (nodes_in (picks_of node before)) (not_touched (is_source node) _ no_source h)))

pub no_source : (node : Node) → ((start : Value) → node ≡ Source start → ⊥) → is_source node ≡ false
no_source (Source start) never = absurd (never start refl)
no_source (Signal script inputs) never = refl
no_source (Fold start script inputs) never = refl
no_source (Choose selectors body inputs) never = refl
