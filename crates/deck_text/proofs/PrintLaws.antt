-- Printing lists item by item.
use Rattle.std.proofs.Common.{◌≡◌, ℕ, ◌+◌, ◌<◌, ◌≤◌, List, [], ◌∷◌, ◌++◌, length, get_or, drop, refl, ap, subst, arith}
use Rattle.std.specs.Prelude.{map, codes}
use Rattle.std.specs.List.{All, AllByRecursion}
use Rattle.std.proofs.lemmas.List.Elements.{All-from_recursion, All-tail}
use Rattle.script_tree.specs.declared.value.Value.TheVariants.{Fault as Faulty}
use Rattle.script_tree.specs.declared.value.Fault.TheVariants.{Kind}
use Rattle.signal_graph.specs.declared.node.Node.TheVariants.{Source, Signal, Fold, Choose}
use Rattle.std.proofs.lemmas.List.{drop_all, drop_more, get_or_default}
use Rattle.script_tree.specs.declared.value.Value.{Value}
use Rattle.script_tree.proofs.Lists.{drop_item}
use Rattle.signal_graph.specs.declared.call.Call.{Call}
use Rattle.signal_graph.specs.declared.node.Selector.{Selector}
use Rattle.signal_graph.specs.declared.node.Node.{Node}
use Rattle.signal_graph.specs.Graph.{Graph, IsGraph, IsNode, IsSelector, name_at, node_at}
use Rattle.signal_graph.proofs.GraphNodes.{node_is}
use Rattle.deck_text.specs.Appended.{with_word, with_set, with_call, with_thread, with_selector, with_node, with_names, with_more_names, with_sets, with_more_sets, with_looks, with_selectors, with_calls, with_threads, with_more_selectors, with_nodes, CandidatesBelow}

-- within a list the default doesn't count
same_at : {A : Type 0} (xs : List A) (k : ℕ) (d : A) → k < length xs → get_or xs k d ≡ get_or xs k (get_or xs k d)
same_at xs k d h = get_or_default xs k d (get_or xs k d) h

pub name_next : (text : List ℕ) (names : List (List ℕ)) (k : ℕ) (name : List ℕ) → k < length names → name ≡ get_or names k name
    → with_more_names text (drop k names) ≡ with_more_names (with_word (text ++ 44 ∷ []) name) (drop (k + 1) names)
name_next text names k name h e = ap (with_more_names text) (drop_item names k name h e)

pub names_done : (text : List ℕ) (names : List (List ℕ)) (k : ℕ) → length names ≤ k → with_more_names text (drop k names) ≡ text
names_done text names k h = ap (with_more_names text) (drop_all k names h)

pub set_next : (text : List ℕ) (sets : List (List ℕ × Value)) (k : ℕ) (s : List ℕ × Value) → k < length sets → s ≡ get_or sets k s
    → with_more_sets text (drop k sets) ≡ with_more_sets (with_set (text ++ 44 ∷ []) s) (drop (k + 1) sets)
set_next text sets k s h e = ap (with_more_sets text) (drop_item sets k s h e)

pub sets_done : (text : List ℕ) (sets : List (List ℕ × Value)) (k : ℕ) → length sets ≤ k → with_more_sets text (drop k sets) ≡ text
sets_done text sets k h = ap (with_more_sets text) (drop_all k sets h)

pub call_next : (text : List ℕ) (calls : List Call) (k : ℕ) (call : Call) → k < length calls → call ≡ get_or calls k call
    → with_calls text (drop k calls) ≡ with_calls (with_call text call) (drop (k + 1) calls)
call_next text calls k call h e = ap (with_calls text) (drop_item calls k call h e)

pub calls_done : (text : List ℕ) (calls : List Call) (k : ℕ) → length calls ≤ k → with_calls text (drop k calls) ≡ text
calls_done text calls k h = ap (with_calls text) (drop_all k calls h)

pub thread_next : (text : List ℕ) (threads : List (List Call)) (k : ℕ) (calls : List Call) → k < length threads → calls ≡ get_or threads k calls
    → with_threads text (drop k threads) ≡ with_threads (with_thread text calls) (drop (k + 1) threads)
thread_next text threads k calls h e = ap (with_threads text) (drop_item threads k calls h e)

pub threads_done : (text : List ℕ) (threads : List (List Call)) (k : ℕ) → length threads ≤ k → with_threads text (drop k threads) ≡ text
threads_done text threads k h = ap (with_threads text) (drop_all k threads h)

pub candidate_next : (graph : Graph) (text : List ℕ) (ns : List ℕ) (k : ℕ) → k < length ns
    → with_more_names text (map (name_at graph) (drop k ns)) ≡ with_more_names (with_word (text ++ 44 ∷ []) (name_at graph (get_or ns k 0))) (map (name_at graph) (drop (k + 1) ns))
candidate_next graph text ns k h = ap (λ (xs : List ℕ). with_more_names text (map (name_at graph) xs)) (drop_more ns k 0 h)

pub candidates_done : (graph : Graph) (text : List ℕ) (ns : List ℕ) (k : ℕ) → length ns ≤ k → with_more_names text (map (name_at graph) (drop k ns)) ≡ text
candidates_done graph text ns k h = ap (λ xs. with_more_names text (map (name_at graph) xs)) (drop_all k ns h)

pub selector_next : (graph : Graph) (text : List ℕ) (selectors : List Selector) (k : ℕ) (s : Selector) → k < length selectors → s ≡ get_or selectors k s
    → with_more_selectors graph text (drop k selectors) ≡ with_more_selectors graph (with_selector graph (text ++ 58 ∷ []) s) (drop (k + 1) selectors)
selector_next graph text selectors k s h e = ap (with_more_selectors graph text) (drop_item selectors k s h e)

pub selectors_done : (graph : Graph) (text : List ℕ) (selectors : List Selector) (k : ℕ) → length selectors ≤ k → with_more_selectors graph text (drop k selectors) ≡ text
selectors_done graph text selectors k h = ap (with_more_selectors graph text) (drop_all k selectors h)

all_below : (n bound : ℕ) (ms : List ℕ) → AllByRecursion (λ m. m < n) ms → n ≤ bound → All (λ m. m < bound) ms
all_below n bound ms h le = λ k d below. omega (arith, All-from_recursion (λ m. m < n) ms h k d below)

candidates_of : (names : List (List ℕ)) (n bound : ℕ) (selectors : List Selector) → AllByRecursion (IsSelector names n) selectors → n ≤ bound → AllByRecursion (λ s. All (λ m. m < bound) s.candidates) selectors
candidates_of names n bound [] h le = tt
candidates_of names n bound (s ∷ rest) h le = (all_below n bound s.candidates h.0.candidates_earlier le, candidates_of names n bound rest h.1 le)

candidates_below : (names : List (List ℕ)) (n bound : ℕ) (node : Node) → IsNode names n node → n ≤ bound → CandidatesBelow bound node
candidates_below names n bound (Source start) h le = tt
candidates_below names n bound (Signal script inputs) h le = tt
candidates_below names n bound (Fold start script inputs) h le = tt
candidates_below names n bound (Choose selectors body inputs) h le =
    All-from_recursion (λ s. All (λ m. m < bound) s.candidates) selectors (candidates_of names n bound selectors h.2 le)

-- the candidates of a graph's nodes are nodes of the graph
pub graph_candidates : (graph : Graph) (n : ℕ) → IsGraph graph → n < length graph.nodes → CandidatesBelow (length graph.nodes) (node_at graph n)
graph_candidates graph n h below =
    candidates_below graph.names (0 + n) (length graph.nodes) _ (node_is graph.names 0 graph.nodes n (Source (Faulty Kind)) h.nodes below) (omega arith)

pub node_next : (graph : Graph) (text : List ℕ) (k : ℕ) → k < length graph.nodes
    → with_nodes graph text k (drop k graph.nodes) ≡ with_nodes graph (with_node graph text (name_at graph k) (node_at graph k)) (k + 1) (drop (k + 1) graph.nodes)
node_next graph text k h = ap (with_nodes graph text k) (drop_item graph.nodes k (node_at graph k) h (same_at graph.nodes k _ h))

pub nodes_done : (graph : Graph) (text : List ℕ) (k : ℕ) → length graph.nodes ≤ k → with_nodes graph text k (drop k graph.nodes) ≡ text
nodes_done graph text k h = ap (with_nodes graph text k) (drop_all k graph.nodes h)

pub ruleset print_laws = (graph_candidates, node_next, nodes_done, name_next, names_done, set_next, sets_done, call_next, calls_done, thread_next, threads_done, candidate_next, candidates_done, selector_next, selectors_done)

pub no_names : (text : List ℕ) (names : List (List ℕ)) → length names ≡ 0 → with_names text names ≡ text
no_names text [] h = refl
no_names text (name ∷ names) h = absurd (omega arith)

pub first_name : (text : List ℕ) (names : List (List ℕ)) (first : List ℕ) (rest : List (List ℕ)) → names ≡ first ∷ rest → with_names text names ≡ with_more_names (with_word text first) rest
first_name text names first rest e = ap (with_names text) e

pub no_sets : (text : List ℕ) (sets : List (List ℕ × Value)) → length sets ≡ 0 → with_sets text sets ≡ text
no_sets text [] h = refl
no_sets text (s ∷ sets) h = absurd (omega arith)

pub first_set : (text : List ℕ) (sets : List (List ℕ × Value)) (first : List ℕ × Value) (rest : List (List ℕ × Value)) → sets ≡ first ∷ rest → with_sets text sets ≡ with_more_sets (with_set text first) rest
first_set text sets first rest e = ap (with_sets text) e

pub no_looks : (text : List ℕ) (names : List (List ℕ)) → length names ≡ 0 → with_looks text names ≡ text
no_looks text [] h = refl
no_looks text (name ∷ names) h = absurd (omega arith)

pub some_looks : (text : List ℕ) (names : List (List ℕ)) → (length names ≡ 0 → ⊥) → with_looks text names ≡ with_names (with_word text (codes "look")) names
some_looks text [] h = absurd (h refl)
some_looks text (name ∷ names) h = refl

pub no_candidates : (graph : Graph) (text : List ℕ) (ns : List ℕ) → length ns ≡ 0 → with_names text (map (name_at graph) ns) ≡ text
no_candidates graph text [] h = refl
no_candidates graph text (n ∷ ns) h = absurd (omega arith)

pub first_candidate : (graph : Graph) (text : List ℕ) (ns : List ℕ) (first : ℕ) (rest : List ℕ) → ns ≡ first ∷ rest → with_names text (map (name_at graph) ns) ≡ with_more_names (with_word text (name_at graph first)) (map (name_at graph) rest)
first_candidate graph text ns first rest e = ap (λ xs. with_names text (map (name_at graph) xs)) e

pub no_selectors : (graph : Graph) (text : List ℕ) (selectors : List Selector) → length selectors ≡ 0 → with_selectors graph text selectors ≡ text
no_selectors graph text [] h = refl
no_selectors graph text (s ∷ selectors) h = absurd (omega arith)

pub first_selector : (graph : Graph) (text : List ℕ) (selectors : List Selector) (first : Selector) (rest : List Selector) → selectors ≡ first ∷ rest → with_selectors graph text selectors ≡ with_more_selectors graph (with_selector graph text first) rest
first_selector graph text selectors first rest e = ap (with_selectors graph text) e

pub below_first : (bound : ℕ) (ns : List ℕ) (first : ℕ) (rest : List ℕ) → ns ≡ first ∷ rest → All (λ m. m < bound) ns → first < bound
below_first bound ns first rest e h = subst (λ xs. All (λ m. m < bound) xs) e h 0 0 (omega arith)

pub below_rest : (bound : ℕ) (ns : List ℕ) (first : ℕ) (rest : List ℕ) → ns ≡ first ∷ rest → All (λ m. m < bound) ns → All (λ m. m < bound) rest
below_rest bound ns first rest e h = All-tail (λ m. m < bound) first rest (subst (λ xs. All (λ m. m < bound) xs) e h)

abbrev AllBelow : ℕ → Selector → Type 0
AllBelow bound s = All (λ m. m < bound) s.candidates

pub selectors_first : (bound : ℕ) (selectors : List Selector) (first : Selector) (rest : List Selector) → selectors ≡ first ∷ rest → All (λ s. All (λ m. m < bound) s.candidates) selectors → All (λ m. m < bound) first.candidates
selectors_first bound selectors first rest e h = subst (λ xs. All (AllBelow bound) xs) e h 0 first (omega arith)

pub selectors_rest : (bound : ℕ) (selectors : List Selector) (first : Selector) (rest : List Selector) → selectors ≡ first ∷ rest → All (λ s. All (λ m. m < bound) s.candidates) selectors → All (λ s. All (λ m. m < bound) s.candidates) rest
selectors_rest bound selectors first rest e h = All-tail (AllBelow bound) first rest (subst (λ xs. All (AllBelow bound) xs) e h)

pub ruleset first_laws = (no_names, first_name, no_sets, first_set, no_looks, some_looks, no_candidates, first_candidate, no_selectors, first_selector, below_first, below_rest)
