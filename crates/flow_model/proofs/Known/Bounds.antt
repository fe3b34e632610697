-- In a lawful state whatever calls and the work at nodes name is a node of the graph, and there is only so much of it.
use Rattle.std.proofs.Common.{◌≡◌, ℕ, zero, suc, ◌+◌, ◌<◌, ◌≤◌, Bool, true, false, ◌==◌, ◌⊎◌, inl, inr, refl, sym, ap, arith, List, [], ◌∷◌, ◌++◌, map, length, slice_index_or, filter, if◌then◌else◌, true≢false, ◌∙◌, subst, Option, Some, None}
use Rattle.std.specs.Prelude.{is_some}
use Rattle.std.specs.List.{AllByRecursion}
use Rattle.std.proofs.lemmas.List.{length-append, length-map}
use Rattle.std.proofs.lemmas.List.Folds.{list_any-append}
use Rattle.std.proofs.lemmas.Bool.{or_cases, or_left, or_right, and_from, eqb-true, eq-eqb, ltb-true}
use Rattle.script_tree.specs.declared.limits.TheConstants.{SELECTORS}
use Rattle.script_tree.specs.declared.value.Value.{Value}
use Rattle.script_tree.specs.declared.value.Value.TheVariants.{Fault as Faulty}
use Rattle.script_tree.specs.declared.value.Fault.TheVariants.{Kind}
use Rattle.signal_graph.specs.declared.node.Node.{Node}
use Rattle.signal_graph.specs.declared.node.Node.TheVariants.{Source, Signal, Fold, Choose}
use Rattle.signal_graph.specs.Graph.{Graph, IsGraph, IsNode, node_at, number_of, numbers, is_in, inputs_of, selectors_of}
use Rattle.signal_graph.specs.Machine.{sets_of, looks_of, first_wrong, names_node, names_source}
use Rattle.signal_graph.specs.Values.{nodes_in}
use Rattle.signal_graph.proofs.Members.{all-members, nodes_in-length}
use Rattle.call_log.specs.Made.{versions_in}
use Rattle.node_versions.specs.Entries.{OutEdge, has, has_out}
use Rattle.node_versions.proofs.Places.{at-has}
use Rattle.flow_model.specs.Machine.Sets.{IsSet}
use Rattle.flow_model.specs.Machine.State.{Core, LiveCall, Found, call, cell, opens, entries, outs}
use Rattle.flow_model.specs.Machine.Words.{is_gathered, is_candidate, found_candidates, picks_of_found, prior_picks}
use Rattle.flow_model.specs.Machine.Steps.{nodes_set}
use Rattle.flow_model.specs.Kept.Lawful.{IsLawful, SomeHead, times, count_edges, lists_candidate, has_evaluated}
use Rattle.flow_model.specs.Follows.Bounds.{NamesNodes, HasBounds, choosers}
use Rattle.flow_model.proofs.OrderStays.OpenNodesHaveFrames.{entry-there}
use Rattle.flow_model.proofs.Wants.FramedWith.{heads-opens, opens-frame}
use Rattle.flow_model.proofs.Edges.EdgesFitCandidates.{candidate-listed}
use Rattle.flow_model.proofs.Opening.OpeningLists.{nodes-at, candidate-earlier}
use Rattle.flow_model.proofs.Wants.EarlierNodes.{dep-earlier}
use Rattle.flow_model.proofs.General.AnyAndAll.{in-filter}
use Rattle.flow_model.proofs.Known.SlotsAndGathered.{gathered-in}
use Rattle.flow_model.proofs.General.Counting.{in-numbers, no_longer, set-fits, filter-short, count-numbers}
use Rattle.flow_model.proofs.Lengths.WorkIsBounded.{found-length}
use Rattle.flow_model.proofs.Wants.WantsAreFree.{all-right, named-nodes}
use Rattle.flow_model.proofs.OrderStays.FullListsAreCollected.{calls-few}

-- ---- what a call names

right-last : (k : ℕ) (xs ys : List Bool) → first_wrong k (xs ++ ys) ≡ None → AllByRecursion (λ x. x ≡ true) ys
right-last k [] [] h = tt
right-last k [] (true ∷ ys) h = (refl, right-last (k + 1) [] ys h)
right-last k [] (false ∷ ys) h = cc
right-last k (true ∷ xs) ys h = right-last (k + 1) xs ys h
right-last k (false ∷ xs) ys h = cc

look-nodes : (graph : Graph) (looks : List (List ℕ)) → AllByRecursion (λ x. x ≡ true) (map (names_node graph) looks) → (n : ℕ) → is_in n (map (number_of graph) looks) ≡ true → n < length graph.nodes
look-nodes graph [] a n h = absurd (true≢false (sym h))
look-nodes graph (look ∷ looks) a n h = go (or_cases _ _ h) (look-nodes graph looks a.1 n)
  where
    go : ((number_of graph look == n) ≡ true) ⊎ (is_in n (map (number_of graph) looks) ≡ true) → (is_in n (map (number_of graph) looks) ≡ true → n < length graph.nodes) → n < length graph.nodes
    go (inl e) further = subst (λ (k : ℕ). k < length graph.nodes) (eqb-true (number_of graph look) n e) (ltb-true (number_of graph look) (length graph.nodes) a.0)
    go (inr e) further = further e

-- ---- the bounds

there : (graph : Graph) (s : Core) → IsLawful graph s → (n u : ℕ) → has (entries s n) u ≡ true → n < length graph.nodes
there graph s h n u k = subst (λ (l : ℕ). n < l) h.lists (entry-there s n u k)

pub opens-node : (graph : Graph) (s : Core) → IsLawful graph s → (u n : ℕ) → opens s u n ≡ true → n < length graph.nodes
opens-node graph s h u n o = there graph s h n u (at-has _ (entries s n) u (opens-frame graph s h u n o))

-- What is gathered for a node are its inputs and what is found, which are nodes before it.
gathered-nodes : (graph : Graph) → IsGraph graph → (s : Core) → IsLawful graph s → (n m : ℕ) → is_gathered s n m ≡ true → (n < length graph.nodes) × (m < n)
gathered-nodes graph g s h n m k = go (h.work_is_kept.gathers n m k)
  where
    go : {P : ℕ → Type 0} → SomeHead s n P → (n < length graph.nodes) × (m < n)
    go x = (l, two (or_cases _ _ (h.work_is_kept.gathers_right n m k)))
      where
        l : n < length graph.nodes
        l = opens-node graph s h x.head n (heads-opens graph s h x.head n x.first)

        two : (is_in m (inputs_of (node_at graph n)) ≡ true) ⊎ (is_candidate s n m ≡ true) → m < n
        two (inl i) = dep-earlier graph g s h x.head n m l (list_any-append (λ y. y == m) (inputs_of (node_at graph n)) (prior_picks s x.head n) ∙ or_left _ _ i)
        two (inr c) = candidate-earlier graph g n m l (candidate-listed graph s h x.head n m x.first c)

pub names-nodes : (graph : Graph) → IsGraph graph → (s : Core) → IsLawful graph s → NamesNodes graph s
names-nodes graph g s h = record {
  wanted = λ u n w. (h.wants_are_free u n w).node;
  open_nodes = opens-node graph s h;
  changed = λ u n l c. there graph s h n u (at-has _ (entries s n) u (sym (h.dones_are_right.changed u n l) ∙ c));
  sets = λ u n l i. let r = h.calls_are_right u l in named-nodes graph (sets_of (call s u).call) (all-right 1 _ (map (names_node graph) (looks_of (call s u).call)) r.well_named) n (subst (λ (xs : List (ℕ × Value)). is_in n (nodes_set xs) ≡ true) r.sets i);
  looks = λ u n l i. let r = h.calls_are_right u l in look-nodes graph (looks_of (call s u).call) (right-last 1 (map (λ (set : List ℕ × Value). names_source graph set.0) (sets_of (call s u).call)) _ r.well_named) n (subst (λ (xs : List ℕ). is_in n xs ≡ true) r.looks i);
  gathered = gathered-nodes graph g s h;
}

few-selectors : (graph : Graph) → IsGraph graph → (n : ℕ) → n < length graph.nodes → length (selectors_of (node_at graph n)) ≤ SELECTORS
few-selectors graph g n l = go (node_at graph n) (nodes-at graph.names 0 graph.nodes n _ g.nodes l)
  where
    go : (node : Node) → IsNode graph.names (0 + n) node → length (selectors_of node) ≤ SELECTORS
    go (Source v) k = omega arith
    go (Signal script inputs) k = omega arith
    go (Fold v script inputs) k = omega arith
    go (Choose selectors body inputs) k = k.1

few-found : (graph : Graph) → IsGraph graph → (s : Core) → IsLawful graph s → (n : ℕ) → length (found_candidates s n) ≤ SELECTORS
few-found graph g s h n = go (cell s n).found refl
  where
    headed : (f : Found) → (cell s n).found ≡ Some f → {P : ℕ → Type 0} → SomeHead s n P → length (nodes_in (picks_of_found (Some f))) ≤ SELECTORS
    headed f e x =
        let l = opens-node graph s h x.head n (heads-opens graph s h x.head n x.first) in
        let k = few-selectors graph g n l in
        let w = h.values_are_read.found x.head n f x.first e in
        let a = nodes_in-length (picks_of_found (Some f)) in
        let b = subst (λ (y : Found). length (picks_of_found (Some y)) ≤ length (selectors_of (node_at graph n))) (sym w) (found-length (node_at graph n) _ _) in
        omega (arith, k, a, b)

    go : (o : Option Found) → (cell s n).found ≡ o → length (nodes_in (picks_of_found o)) ≤ SELECTORS
    go None e = omega arith
    go (Some f) e = headed f e (h.work_is_kept.finds n (ap (λ (o : Option Found). is_some o) e))

few-gathered : (graph : Graph) → IsGraph graph → (s : Core) → IsLawful graph s → (n : ℕ) → length (cell s n).gathered ≤ length (inputs_of (node_at graph n)) + SELECTORS
few-gathered graph g s h n =
    let ns = map (λ (p : ℕ × Value). p.0) (cell s n).gathered in
    let r = no_longer ns (inputs_of (node_at graph n) ++ found_candidates s n) (h.gathered_are_apart n)
    (λ m i. list_any-append (λ y. y == m) (inputs_of (node_at graph n)) (found_candidates s n) ∙ h.work_is_kept.gathers_right n m (gathered-in m (cell s n).gathered ∙ i)) in
    let l = length-map (cell s n).gathered (λ (p : ℕ × Value). p.0) in
    let a = length-append (inputs_of (node_at graph n)) (found_candidates s n) in
    let f = few-found graph g s h n in
    omega (arith, r, l, a, f)

-- ---- sets of nodes

set-nodes_fit : (graph : Graph) (xs : List ℕ) → IsSet xs → ((n : ℕ) → is_in n xs ≡ true → n < length graph.nodes) → length xs ≤ length graph.nodes
set-nodes_fit graph xs h f = let r = set-fits 0 (length graph.nodes) xs (omega arith) h (all-members (λ y. 0 ≤ y) xs (λ n k. omega arith)) (all-members (λ y. y < length graph.nodes) xs f) in omega (arith, r)

-- ---- out-edges

pub edges-once : (n : ℕ) (edges : List OutEdge) → times n (map (λ (edge : OutEdge). edge.0) edges) ≡ count_edges n edges
edges-once n [] = refl
edges-once n (edge ∷ edges) = go (edge.0 == n) (edges-once n edges)
  where
    go : (b : Bool) → times n (map (λ (edge : OutEdge). edge.0) edges) ≡ count_edges n edges
        → length (if b then edge.0 ∷ filter (λ y. y == n) (map (λ (edge : OutEdge). edge.0) edges) else filter (λ y. y == n) (map (λ (edge : OutEdge). edge.0) edges))
        ≡ length (if b then edge ∷ filter (λ (edge : OutEdge). edge.0 == n) edges else filter (λ (edge : OutEdge). edge.0 == n) edges)
    go true r = ap suc r
    go false r = r

pub edge-since : (n : ℕ) (edges : List OutEdge) → is_in n (map (λ (edge : OutEdge). edge.0) edges) ≡ true → (since : ℕ) × (has_out edges n since ≡ true)
edge-since n [] h = absurd (true≢false (sym h))
edge-since n (edge ∷ edges) h = go (or_cases _ _ h) (edge-since n edges)
  where
    go : ((edge.0 == n) ≡ true) ⊎ (is_in n (map (λ (edge : OutEdge). edge.0) edges) ≡ true) → (is_in n (map (λ (edge : OutEdge). edge.0) edges) ≡ true → (since : ℕ) × (has_out edges n since ≡ true)) → (since : ℕ) × (has_out (edge ∷ edges) n since ≡ true)
    go (inl e) further = (edge.1, or_left _ _ (and_from (edge.0 == n) (edge.1 == edge.1) e (eq-eqb edge.1 edge.1 refl)))
    go (inr e) further = let r = further e in (r.0, or_right _ _ r.1)

pub listed-node : (graph : Graph) (n m : ℕ) → lists_candidate m (selectors_of (node_at graph n)) ≡ true → n < length graph.nodes
listed-node graph n m h = go graph.nodes n h
  where
    go : (nodes : List Node) (n : ℕ) → lists_candidate m (selectors_of (slice_index_or nodes n (Source (Faulty Kind)))) ≡ true → n < length nodes
    go [] n h = absurd (true≢false (sym h))
    go (x ∷ xs) zero h = omega arith
    go (x ∷ xs) (suc n) h = let r = go xs n h in omega (arith, r)

few-outs : (graph : Graph) (s : Core) → IsLawful graph s → (m : ℕ) → length (outs s m) ≤ length (choosers graph m)
few-outs graph s h m =
    let ns = map (λ (edge : OutEdge). edge.0) (outs s m) in
    let r = no_longer ns (choosers graph m) (λ n. subst (λ (k : ℕ). k ≤ 1) (sym (edges-once n (outs s m))) (h.edges_are_kept.once n m))
    (λ n i. let e = edge-since n (outs s m) i in let c = h.edges_fit.candidate n m e.0 e.1 in let l = listed-node graph n m c in
    in-filter (λ n. lists_candidate m (selectors_of (node_at graph n))) (numbers graph) n (in-numbers 0 graph.nodes n (omega arith) (omega (arith, l))) c) in
    let l = length-map (outs s m) (λ (edge : OutEdge). edge.0) in
    omega (arith, r, l)

-- Each live call has a version from one on that has begun.
begun-versions : (cs : List LiveCall) (b : ℕ) → ((v : ℕ) → is_in v (map (λ (c : LiveCall). c.version) cs) ≡ true → (1 ≤ v) × (v ≤ b)) → AllByRecursion (λ (c : LiveCall). (1 ≤ c.version) × (c.version ≤ b)) cs
begun-versions [] b f = tt
begun-versions (c ∷ cs) b f = (f c.version (or_left _ _ (eq-eqb c.version c.version refl)), begun-versions cs b (λ v i. f v (or_right _ _ i)))

pub has-bounds : (graph : Graph) → IsGraph graph → (s : Core) → IsLawful graph s → HasBounds graph s
has-bounds graph g s h = record {
  calls = calls-few graph s h;
  versions = begun-versions s.calls s.begun (λ v i. h.versions_are_fresh.fit v (list_any-append (λ m. m == v) (map (λ (c : LiveCall). c.version) s.calls) (versions_in s.log) ∙ or_left _ _ i));
  log = let c = h.versions_are_fresh.count in let w = h.begun_is_within in omega (arith, c, w);
  found = few-found graph g s h;
  gathered = few-gathered graph g s h;
  outs = few-outs graph s h;
  wanted = λ u. set-nodes_fit graph (call s u).wanted (h.sets_are_sets.wanted u) (λ n w. (h.wants_are_free u n w).node);
  open_nodes = λ u. set-nodes_fit graph (call s u).open_nodes (h.sets_are_sets.open_nodes u) (opens-node graph s h u);
  changed = λ u l. set-nodes_fit graph (call s u).changed (h.sets_are_sets.changed u) (λ n c. (names-nodes graph g s h).changed u n l c);
  evaluated = λ u l. let e = h.dones_are_right.evaluated u l in let f = filter-short (has_evaluated graph s u) (numbers graph) in let c = count-numbers 0 graph.nodes in omega (arith, e, f, c);
}
