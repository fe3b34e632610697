-- What a graph keeps, node by node.
use Rattle.std.proofs.Common.{◌≡◌, ℕ, zero, suc, ◌+◌, ◌<◌, ◌≤◌, if◌then◌else◌, true, false, List, [], ◌∷◌, length, get_or, sym, ap, subst, ◌∙◌, arith, add-zero, zero-add}
use Rattle.std.specs.List.{All, AllByRecursion}
use Rattle.std.proofs.lemmas.List.{length-map}
use Rattle.std.proofs.lemmas.List.Elements.{All-from_recursion}
use Rattle.script_tree.specs.declared.value.Value.TheVariants.{Fault as Faulty}
use Rattle.script_tree.specs.declared.value.Fault.TheVariants.{Kind}
use Rattle.script_tree.specs.declared.limits.TheConstants.{SELECTORS}
use Rattle.script_tree.specs.Scripts.{Scripted, HasNoPicks}
use Rattle.script_tree.proofs.Lists.{all_append}
use Rattle.signal_graph.specs.declared.node.Selector.{Selector}
use Rattle.signal_graph.specs.declared.node.Node.{Node}
use Rattle.signal_graph.specs.declared.node.Node.TheVariants.{Source, Signal, Fold, Choose}
use Rattle.signal_graph.specs.Graph.{IsNode, AreNodes, IsSelector, Resolves, is_in, inputs_of, selectors_of, inputs_of_all, different_from, Graph, IsGraph, node_at}
use Rattle.signal_graph.specs.Evaluation.{CanRun, CanSelect, CanEvaluate}
use Rattle.signal_graph.specs.Kept.{NamesEarlier}

pub all-different : (P : ℕ → Type 0) (seen ns : List ℕ) → AllByRecursion P ns → AllByRecursion P (different_from seen ns)
all-different P seen [] a = tt
all-different P seen (n ∷ ns) a =
    elim (is_in n seen) as (λ b. AllByRecursion P (if b then different_from seen ns else n ∷ different_from (n ∷ seen) ns))
    [ true ↦ all-different P seen ns a.1 | false ↦ (a.0, all-different P (n ∷ seen) ns a.1) ]

-- the inputs of the selectors of a choose are earlier nodes
pub earlier_in_selectors : (names : List (List ℕ)) (n : ℕ) (selectors : List Selector)
    → AllByRecursion (IsSelector names n) selectors → AllByRecursion (λ m. m < n) (inputs_of_all selectors)
earlier_in_selectors names n [] h = tt
earlier_in_selectors names n (selector ∷ rest) h =
    all_append (λ m. m < n) selector.inputs (inputs_of_all rest) h.0.inputs_earlier (earlier_in_selectors names n rest h.1)

-- the inputs of a node are earlier nodes
pub earlier_inputs : (names : List (List ℕ)) (n : ℕ) (node : Node) → IsNode names n node → AllByRecursion (λ m. m < n) (inputs_of node)
earlier_inputs names n (Source start) h = tt
earlier_inputs names n (Signal script inputs) h = h.3
earlier_inputs names n (Fold start script inputs) h = h.3
earlier_inputs names n (Choose selectors body inputs) h =
    subst (λ ns. AllByRecursion (λ m. m < n) ns) (sym h.4)
    (all-different (λ m. m < n) [] (inputs_of_all selectors) (earlier_in_selectors names n selectors h.2))

can_run : (names : List (List ℕ)) (script : Scripted) (inputs : List ℕ) → Resolves names script inputs → HasNoPicks script → CanRun script inputs
can_run names script inputs resolves no_picks = record {
  fits = sym (length-map inputs (λ n. get_or names n [])) ∙ ap length resolves;
  no_picks = no_picks;
}

can_select : (names : List (List ℕ)) (n : ℕ) (selectors : List Selector) → AllByRecursion (IsSelector names n) selectors → AllByRecursion CanSelect selectors
can_select names n [] h = tt
can_select names n (selector ∷ rest) h = (can_run names selector.script selector.inputs h.0.resolves h.0.no_picks, can_select names n rest h.1)

-- the value of a node can be found
pub can_evaluate : (names : List (List ℕ)) (n : ℕ) (node : Node) → IsNode names n node → CanEvaluate node
can_evaluate names n (Source start) h = tt
can_evaluate names n (Signal script inputs) h = can_run names script inputs h.2 h.1
can_evaluate names n (Fold start script inputs) h = can_run names script inputs h.2 h.1
can_evaluate names n (Choose selectors body inputs) h = (can_select names n selectors h.2, h.1, h.3)

-- the node at an index, counted from k
pub node_is : (names : List (List ℕ)) (k : ℕ) (nodes : List Node) (i : ℕ) (d : Node) → AreNodes names k nodes → i < length nodes → IsNode names (k + i) (get_or nodes i d)
node_is names k [] i d h below = absurd (omega arith)
node_is names k (node ∷ rest) zero d h below = rw add-zero h.0
node_is names k (node ∷ rest) (suc i) d h below =
    let further : (k + 1) + i ≡ k + suc i = omega arith in
    subst (λ n. IsNode names n (get_or rest i d)) further (node_is names (k + 1) rest i d h.1 (omega arith))

pub is_node_at : (graph : Graph) → IsGraph graph → (n : ℕ) → n < length graph.nodes → IsNode graph.names n (node_at graph n)
is_node_at graph is_graph n within = subst (λ k. IsNode graph.names k (node_at graph n)) (zero-add n) (node_is graph.names 0 graph.nodes n (Source (Faulty Kind)) is_graph.nodes within)

pub names_earlier : (names : List (List ℕ)) (nodes : List Node) → AreNodes names 0 nodes → NamesEarlier nodes
names_earlier names nodes h = λ n below.
    let is : IsNode names n (get_or nodes n (Source (Faulty Kind))) = rw zero-add at (node_is names 0 nodes n (Source (Faulty Kind)) h below) in
    All-from_recursion (λ m. m < n) _ (earlier_inputs names n _ is)

pub all_can_evaluate : (names : List (List ℕ)) (nodes : List Node) → AreNodes names 0 nodes → All CanEvaluate nodes
all_can_evaluate names nodes h = λ n d below. can_evaluate names (0 + n) _ (node_is names 0 nodes n d h below)

-- a node of a graph has few selectors
pub few_selectors : (names : List (List ℕ)) (n : ℕ) (node : Node) → IsNode names n node → length (selectors_of node) ≤ SELECTORS
few_selectors names n (Source start) h = omega arith
few_selectors names n (Signal script inputs) h = omega arith
few_selectors names n (Fold start script inputs) h = omega arith
few_selectors names n (Choose selectors body inputs) h = h.1
