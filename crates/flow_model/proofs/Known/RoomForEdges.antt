-- Where a Discover is allowed there is room for its out-edge, and none of the node stands there.
use Rattle.std.proofs.Common.{◌≡◌, ℕ, zero, suc, ◌<◌, ◌≤◌, Bool, true, false, ◌||◌, ◌==◌, ◌⊎◌, inl, inr, refl, sym, ap, arith, List, [], ◌∷◌, length, map, true≢false, ◌∙◌, subst, Option, Some, None}
use Rattle.std.proofs.lemmas.Bool.{or_cases, eqb-true, eq-eqb, false_from_ne_true, both_ways, cases_Bool}
use Rattle.std.proofs.lemmas.List.{length-map}
use Rattle.signal_graph.specs.Graph.{Graph, node_at, numbers, is_in, selectors_of}
use Rattle.node_versions.specs.Entries.{OutEdge, first_open, has_out, has_node}
use Rattle.flow_model.specs.declared.step.Step.TheVariants as steps
use Rattle.flow_model.specs.Machine.State.{Core, entries, outs}
use Rattle.flow_model.specs.Machine.Words.{heads, is_some_of}
use Rattle.flow_model.specs.Machine.Steps.{allowed}
use Rattle.flow_model.specs.Kept.Lawful.{IsLawful, IsRunEdge, IsNewEdge, AreDistinct, times, lists_candidate}
use Rattle.flow_model.specs.Follows.Bounds.{choosers}
use Rattle.flow_model.proofs.OneStep.WhoMayStep.{discover-due, due-can_work, can_work-at_front, at_front-heads}
use Rattle.flow_model.proofs.General.Counting.{no_longer, in-numbers}
use Rattle.flow_model.proofs.General.AnyAndAll.{in-filter}
use Rattle.flow_model.proofs.General.Pigeons.{times-it, times-other}
use Rattle.flow_model.proofs.OneStep.VersionsStayFresh.{in-times}
use Rattle.flow_model.proofs.Wants.FramedWith.{heads-opens}
use Rattle.flow_model.proofs.FramesSpread.AfterDiscover.{head-prior, discover-not_prior}
use Rattle.flow_model.proofs.Edges.EdgesFitCandidates.{candidate-listed, discover-candidate, discover-no_edge}
use Rattle.flow_model.proofs.Known.Bounds.{opens-node, listed-node, edges-once, edge-since}

-- The first open call is one.
one-head : (o : Option ℕ) (t u : ℕ) → is_some_of o t ≡ true → is_some_of o u ≡ true → u ≡ t
one-head None t u h k = absurd (true≢false (sym h))
one-head (Some x) t u h k = sym (eqb-true x u k) ∙ eqb-true x t h

no_edge : (graph : Graph) (s : Core) → IsLawful graph s → (t n c : ℕ) → allowed graph s (steps.Discover t n c) ≡ true → (since : ℕ) → has_out (outs s c) n since ≡ true → ⊥
no_edge graph s h t n c a since k = go (h.edges_are_kept.stands n c since k)
  where
    hd : heads s t n ≡ true
    hd = at_front-heads graph s t n (can_work-at_front graph s t n (due-can_work graph s t n (discover-due graph s t n c a)))

    go : IsRunEdge s n c since ⊎ IsNewEdge s n c since → ⊥
    go (inl x) = both_ways _ (discover-not_prior graph s t n c a) (head-prior graph s h t n c hd ∙ x.picked)
    go (inr x) = both_ways _ (discover-no_edge graph s t n c a) (subst (λ (w : ℕ). has_out (outs s c) n w ≡ true) (one-head (first_open (entries s n)) t since hd x.first_open) k)

node-in : (n : ℕ) (edges : List OutEdge) → has_node edges n ≡ is_in n (map (λ (edge : OutEdge). edge.0) edges)
node-in n [] = refl
node-in n (edge ∷ edges) = ap (λ (b : Bool). (edge.0 == n) || b) (node-in n edges)

-- The out-edge is the first of its node, and there is room for it.
pub new-edge : (graph : Graph) (s : Core) → IsLawful graph s → (t n c : ℕ) → allowed graph s (steps.Discover t n c) ≡ true → (has_node (outs s c) n ≡ false) × (length (outs s c) < length (choosers graph c))
new-edge graph s h t n c a = (node-in n (outs s c) ∙ absent, room)
  where
    ns : List ℕ
    ns = map (λ (edge : OutEdge). edge.0) (outs s c)

    absent : is_in n ns ≡ false
    absent = false_from_ne_true _ (λ i. let e = edge-since n (outs s c) i in no_edge graph s h t n c a e.0 e.1)

    zero_of : (x : ℕ) → (1 ≤ x → ⊥) → x ≡ 0
    zero_of zero f = refl
    zero_of (suc x) f = absurd (f (omega arith))

    distinct : AreDistinct (n ∷ ns)
    distinct x = go (cases_Bool (n == x)) (subst (λ (k : ℕ). k ≤ 1) (sym (edges-once x (outs s c))) (h.edges_are_kept.once x c))
      where
        go : ((n == x) ≡ true) ⊎ ((n == x) ≡ false) → times x ns ≤ 1 → times x (n ∷ ns) ≤ 1
        go (inl e) l =
            let q = eqb-true n x e in
            let z = zero_of (times x ns) (λ k. both_ways _ absent (subst (λ (w : ℕ). is_in w ns ≡ true) (sym q) (in-times x ns k))) in
            let r = times-it x n ns q in
            omega (arith, z, r)
        go (inr e) l = let r = times-other x n ns (λ q. both_ways _ e (eq-eqb n x q)) in omega (arith, r, l)

    chooser : (m : ℕ) → m < length graph.nodes → lists_candidate c (selectors_of (node_at graph m)) ≡ true → is_in m (choosers graph c) ≡ true
    chooser m l k = in-filter (λ m. lists_candidate c (selectors_of (node_at graph m))) (numbers graph) m (in-numbers 0 graph.nodes m (omega arith) (omega (arith, l))) k

    inside : (x : ℕ) → is_in x (n ∷ ns) ≡ true → is_in x (choosers graph c) ≡ true
    inside x k = go (or_cases (n == x) (is_in x ns) k)
      where
        hd : heads s t n ≡ true
        hd = at_front-heads graph s t n (can_work-at_front graph s t n (due-can_work graph s t n (discover-due graph s t n c a)))

        go : ((n == x) ≡ true) ⊎ (is_in x ns ≡ true) → is_in x (choosers graph c) ≡ true
        go (inl e) = subst (λ (w : ℕ). is_in w (choosers graph c) ≡ true) (eqb-true n x e) (chooser n (opens-node graph s h t n (heads-opens graph s h t n hd)) (candidate-listed graph s h t n c hd (discover-candidate graph s t n c a)))
        go (inr i) = let e = edge-since x (outs s c) i in let f = h.edges_fit.candidate x c e.0 e.1 in chooser x (listed-node graph x c f) f

    room : length (outs s c) < length (choosers graph c)
    room = let r = no_longer (n ∷ ns) (choosers graph c) distinct inside in let l = length-map (outs s c) (λ (edge : OutEdge). edge.0) in omega (arith, r, l)
