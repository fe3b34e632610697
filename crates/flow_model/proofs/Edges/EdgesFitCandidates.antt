-- Each out-edge is of a choose node that has the node among its candidates, and stands there once, after each step.
use Rattle.std.proofs.Common.{◌≡◌, ℕ, Bool, true, false, ◌&&◌, ◌==◌, ◌⊎◌, inl, inr, refl, sym, ap, arith, List, [], ◌∷◌, map, true≢false, ◌∙◌, subst, Option, Some, None}
use Rattle.std.specs.List.{AllZip}
use Rattle.std.proofs.lemmas.Bool.Decides.{eqb_tells}
use Rattle.std.proofs.lemmas.Bool.{or_cases, or_left, or_right, and_parts, eqb-true, false_from_ne_true, both_ways, not-true}
use Rattle.script_tree.specs.declared.value.Value.{Value}
use Rattle.script_tree.specs.declared.value.Value.TheVariants.{Fault as Faulty}
use Rattle.script_tree.specs.declared.value.Fault.TheVariants.{Kind}
use Rattle.script_tree.proofs.Truths.{and_left, and_right}
use Rattle.signal_graph.specs.declared.call.Call.{Call}
use Rattle.signal_graph.specs.declared.node.Selector.{Selector}
use Rattle.signal_graph.specs.declared.node.Node.{Node}
use Rattle.signal_graph.specs.declared.node.Node.TheVariants.{Source, Signal, Fold, Choose}
use Rattle.signal_graph.specs.Graph.{Graph, is_in, node_at, selectors_of}
use Rattle.signal_graph.specs.Values.{select, taken, nodes_in}
use Rattle.node_versions.specs.declared.entry.State.TheVariants.{Mark, Frame}
use Rattle.node_versions.specs.Entries.{OutEdge, AreDifferent, at, is_mark, has_out, with_out}
use Rattle.flow_model.specs.declared.step.Step.{Step}
use Rattle.flow_model.specs.declared.step.Step.TheVariants as steps
use Rattle.flow_model.specs.Machine.State.{Core, Cell, Found, cell, entries, outs, with_cell}
use Rattle.flow_model.specs.Machine.Words.{heads, is_candidate, found_now, finds, run_over, picks_of_found, value_now, found_picks}
use Rattle.flow_model.specs.Machine.Changes.{place_entry, set_state, enter, raise, ensure_mark, add_edge, drop_edge, remove_first, cleared, finish}
use Rattle.flow_model.specs.Machine.Steps.{allowed, apply, begin, open_node, frame, keep_found, collect, is_change}
use Rattle.flow_model.specs.Kept.Lawful.{IsLawful, EdgesFit, IsPickOf, lists_candidate}
use Rattle.flow_model.proofs.OneStep.WhoMayStep.{discover-due, due-can_work, can_work-at_front, at_front-heads}
use Rattle.flow_model.proofs.Opening.OpeningLists.{select-fits, picked-listed}
use Rattle.flow_model.proofs.OneList.Entering.{with_cell-cell}
use Rattle.flow_model.proofs.FramesSpread.AfterOtherSteps.{same_outs, ensured-edges, removed-less}

-- ---- what is found are candidates

selections-fit : (f : Selector → Value) (selectors : List Selector) → AllZip IsPickOf selectors (map taken (map (λ selector. select (f selector) selector.candidates) selectors))
selections-fit f [] = tt
selections-fit f (x ∷ xs) = (select-fits x (f x), selections-fit f xs)

pub found-fits : (node : Node) (read : ℕ → Value) (acc : Value) → AllZip IsPickOf (selectors_of node) (picks_of_found (Some (finds node read acc)))
found-fits (Source v) read acc = tt
found-fits (Signal script inputs) read acc = tt
found-fits (Fold v script inputs) read acc = tt
found-fits (Choose selectors body inputs) read acc = selections-fit (λ selector. run_over selector.script selector.inputs read (Faulty Kind)) selectors

pub candidate-listed : (graph : Graph) (s : Core) → IsLawful graph s → (t n m : ℕ) → heads s t n ≡ true → is_candidate s n m ≡ true → lists_candidate m (selectors_of (node_at graph n)) ≡ true
candidate-listed graph s h t n m hd k = go (cell s n).found refl k
  where
    go : (o : Option Found) → (cell s n).found ≡ o → is_in m (nodes_in (picks_of_found o)) ≡ true → lists_candidate m (selectors_of (node_at graph n)) ≡ true
    go None e k = absurd (true≢false (sym k))
    go (Some f) e k = picked-listed (selectors_of (node_at graph n)) (picks_of_found (Some f)) m (subst (λ (x : Found). AllZip IsPickOf (selectors_of (node_at graph n)) (picks_of_found (Some x))) (sym (h.values_are_read.found t n f hd e)) (found-fits (node_at graph n) _ _)) k

-- ---- an edge more or less

pub added-out : (n0 t n since : ℕ) (os : List OutEdge) → has_out (with_out os n0 t) n since ≡ true → (has_out os n since ≡ true) ⊎ (((n0 == n) ≡ true) × ((t == since) ≡ true))
added-out n0 t n since [] h = go (or_cases _ _ h)
  where
    go : (((n0 == n) && (t == since)) ≡ true) ⊎ (false ≡ true) → (has_out [] n since ≡ true) ⊎ (((n0 == n) ≡ true) × ((t == since) ≡ true))
    go (inl k) = inr (and_parts (n0 == n) (t == since) k)
    go (inr k) = absurd (true≢false (sym k))
added-out n0 t n since (edge ∷ os) h = go (or_cases _ _ h) (added-out n0 t n since os)
  where
    go : (((edge.0 == n) && (edge.1 == since)) ≡ true) ⊎ (has_out (with_out os n0 t) n since ≡ true) → (has_out (with_out os n0 t) n since ≡ true → (has_out os n since ≡ true) ⊎ (((n0 == n) ≡ true) × ((t == since) ≡ true))) → (has_out (edge ∷ os) n since ≡ true) ⊎ (((n0 == n) ≡ true) × ((t == since) ≡ true))
    go (inl k) further = inl (or_left _ _ k)
    go (inr k) further = two (further k)
      where
        two : (has_out os n since ≡ true) ⊎ (((n0 == n) ≡ true) × ((t == since) ≡ true)) → (has_out (edge ∷ os) n since ≡ true) ⊎ (((n0 == n) ≡ true) × ((t == since) ≡ true))
        two (inl x) = inl (or_right _ _ x)
        two (inr x) = inr x

added-different : (n0 t : ℕ) (os : List OutEdge) → AreDifferent os → has_out os n0 t ≡ false → AreDifferent (with_out os n0 t)
added-different n0 t [] d h = (refl, tt)
added-different n0 t (edge ∷ os) d h = (false_from_ne_true _ (λ k. go (added-out n0 t edge.0 edge.1 os k)), added-different n0 t os d.1 (false_from_ne_true _ (λ k. both_ways _ h (or_right _ _ k))))
  where
    here : (a b : ℕ) → ((a == edge.0) ≡ true) → ((b == edge.1) ≡ true) → ((edge.0 == a) && (edge.1 == b)) ≡ true
    here a b j k = grind (arith, eqb_tells, j, k)

    go : (has_out os edge.0 edge.1 ≡ true) ⊎ (((n0 == edge.0) ≡ true) × ((t == edge.1) ≡ true)) → ⊥
    go (inl k) = both_ways _ d.0 k
    go (inr k) = both_ways _ h (or_left _ _ (here n0 t k.0 k.1))

removed-different : (n0 : ℕ) (os : List OutEdge) → AreDifferent os → AreDifferent (remove_first n0 os)
removed-different n0 [] d = tt
removed-different n0 (edge ∷ os) d = go (edge.0 == n0) (removed-different n0 os d.1)
  where
    go : (b : Bool) → AreDifferent (remove_first n0 os) → AreDifferent (elim b as (λ _. List OutEdge) [ true ↦ os | false ↦ edge ∷ remove_first n0 os ])
    go true r = d.1
    go false r = (false_from_ne_true _ (λ k. both_ways _ d.0 (removed-less n0 edge.0 edge.1 os k)), r)

-- ---- the steps

-- Edges that stood, and edges that fit.
edges-from : (graph : Graph) (s : Core) → IsLawful graph s → (q : Core) → ((n m since : ℕ) → has_out (outs q m) n since ≡ true → (has_out (outs s m) n since ≡ true) ⊎ (lists_candidate m (selectors_of (node_at graph n)) ≡ true)) → ((m : ℕ) → AreDifferent (outs s m) → AreDifferent (outs q m)) → EdgesFit graph q
edges-from graph s h q f d = record { candidate = λ n m since k. go n m since (f n m since k); different = λ m. d m (h.edges_fit.different m) }
  where
    go : (n m since : ℕ) → (has_out (outs s m) n since ≡ true) ⊎ (lists_candidate m (selectors_of (node_at graph n)) ≡ true) → lists_candidate m (selectors_of (node_at graph n)) ≡ true
    go n m since (inl k) = h.edges_fit.candidate n m since k
    go n m since (inr k) = k

kept-edges : (graph : Graph) (s : Core) → IsLawful graph s → (q : Core) → ((m : ℕ) → outs q m ≡ outs s m) → EdgesFit graph q
kept-edges graph s h q e = edges-from graph s h q (λ n m since k. inl (subst (λ (os : List OutEdge). has_out os n since ≡ true) (e m) k)) (λ m d. subst AreDifferent (sym (e m)) d)

pub frame-edges : (graph : Graph) (s : Core) (t n m : ℕ) → outs (frame graph s t n) m ≡ outs s m
frame-edges graph s t n m = go (at is_mark (entries s n) t)
  where
    go : (b : Bool) → outs (elim b [ true ↦ open_node graph (raise s t n) t n | false ↦ open_node graph (enter s t n Frame) t n ]) m ≡ outs s m
    go true = same_outs s n (set_state t Frame) (λ c. refl) m
    go false = same_outs s n (place_entry s t Frame) (λ c. refl) m

pub discover-candidate : (graph : Graph) (s : Core) (t n c : ℕ) → allowed graph s (steps.Discover t n c) ≡ true → is_candidate s n c ≡ true
discover-candidate graph s t n c a = and_right _ _ (and_left _ _ (and_left _ _ (and_left _ _ a)))

pub discover-no_edge : (graph : Graph) (s : Core) (t n c : ℕ) → allowed graph s (steps.Discover t n c) ≡ true → has_out (outs s c) n t ≡ false
discover-no_edge graph s t n c a = not-true _ (and_right _ _ (and_left _ _ a))

discovered-edges : (graph : Graph) (s : Core) (t n0 c : ℕ) → IsLawful graph s → allowed graph s (steps.Discover t n0 c) ≡ true → EdgesFit graph (apply graph s (steps.Discover t n0 c))
discovered-edges graph s t n0 c h a = edges-from graph s h (apply graph s (steps.Discover t n0 c)) (λ n m since k. go n m since (with_cell-cell p c (add_edge n0 t) m) k) (λ m d. apart m (with_cell-cell p c (add_edge n0 t) m) d)
  where
    p : Core
    p = ensure_mark s t c

    q : Core
    q = with_cell p c (add_edge n0 t)

    listed : lists_candidate c (selectors_of (node_at graph n0)) ≡ true
    listed = candidate-listed graph s h t n0 c (at_front-heads graph s t n0 (can_work-at_front graph s t n0 (due-can_work graph s t n0 (discover-due graph s t n0 c a)))) (discover-candidate graph s t n0 c a)

    new : (m : ℕ) → m ≡ c → cell q m ≡ add_edge n0 t (cell p m) → outs q m ≡ with_out (outs s m) n0 t
    new m j e = ap (λ (x : Cell). x.outs) e ∙ ap (λ (os : List OutEdge). with_out os n0 t) (ensured-edges s t c m)

    go : (n m since : ℕ) → (cell q m ≡ cell p m) ⊎ ((m ≡ c) × (cell q m ≡ add_edge n0 t (cell p m))) → has_out (outs q m) n since ≡ true → (has_out (outs s m) n since ≡ true) ⊎ (lists_candidate m (selectors_of (node_at graph n)) ≡ true)
    go n m since (inl e) k = inl (subst (λ (os : List OutEdge). has_out os n since ≡ true) (ap (λ (x : Cell). x.outs) e ∙ ensured-edges s t c m) k)
    go n m since (inr e) k = two (added-out n0 t n since (outs s m) (subst (λ (os : List OutEdge). has_out os n since ≡ true) (new m e.0 e.1) k))
      where
        two : (has_out (outs s m) n since ≡ true) ⊎ (((n0 == n) ≡ true) × ((t == since) ≡ true)) → (has_out (outs s m) n since ≡ true) ⊎ (lists_candidate m (selectors_of (node_at graph n)) ≡ true)
        two (inl x) = inl x
        two (inr x) = inr (subst (λ (j : ℕ). lists_candidate j (selectors_of (node_at graph n)) ≡ true) (sym e.0) (subst (λ (j : ℕ). lists_candidate c (selectors_of (node_at graph j)) ≡ true) (eqb-true n0 n x.0) listed))

    apart : (m : ℕ) → (cell q m ≡ cell p m) ⊎ ((m ≡ c) × (cell q m ≡ add_edge n0 t (cell p m))) → AreDifferent (outs s m) → AreDifferent (outs q m)
    apart m (inl e) d = subst AreDifferent (sym (ap (λ (x : Cell). x.outs) e ∙ ensured-edges s t c m)) d
    apart m (inr e) d = subst AreDifferent (sym (new m e.0 e.1)) (added-different n0 t (outs s m) d (subst (λ (j : ℕ). has_out (outs s j) n0 t ≡ false) (sym e.0) (discover-no_edge graph s t n0 c a)))

dropped-edges : (graph : Graph) (s : Core) (t n0 o : ℕ) → IsLawful graph s → EdgesFit graph (apply graph s (steps.Drop t n0 o))
dropped-edges graph s t n0 o h = edges-from graph s h q (λ n m since k. inl (go n m since (with_cell-cell p o (drop_edge n0) m) k)) (λ m d. apart m (with_cell-cell p o (drop_edge n0) m) d)
  where
    p : Core
    p = ensure_mark s t o

    q : Core
    q = with_cell p o (drop_edge n0)

    less : (m : ℕ) → cell q m ≡ drop_edge n0 (cell p m) → outs q m ≡ remove_first n0 (outs s m)
    less m e = ap (λ (x : Cell). x.outs) e ∙ ap (remove_first n0) (ensured-edges s t o m)

    go : (n m since : ℕ) → (cell q m ≡ cell p m) ⊎ ((m ≡ o) × (cell q m ≡ drop_edge n0 (cell p m))) → has_out (outs q m) n since ≡ true → has_out (outs s m) n since ≡ true
    go n m since (inl e) k = subst (λ (os : List OutEdge). has_out os n since ≡ true) (ap (λ (x : Cell). x.outs) e ∙ ensured-edges s t o m) k
    go n m since (inr e) k = removed-less n0 n since (outs s m) (subst (λ (os : List OutEdge). has_out os n since ≡ true) (less m e.1) k)

    apart : (m : ℕ) → (cell q m ≡ cell p m) ⊎ ((m ≡ o) × (cell q m ≡ drop_edge n0 (cell p m))) → AreDifferent (outs s m) → AreDifferent (outs q m)
    apart m (inl e) d = subst AreDifferent (sym (ap (λ (x : Cell). x.outs) e ∙ ensured-edges s t o m)) d
    apart m (inr e) d = subst AreDifferent (sym (less m e.1)) (removed-different n0 (outs s m) d)

pub step-EdgesFit : (graph : Graph) (s : Core) (step : Step) → IsLawful graph s → allowed graph s step ≡ true → EdgesFit graph (apply graph s step)
step-EdgesFit graph s (steps.Frame t n) h a = kept-edges graph s h (frame graph s t n) (frame-edges graph s t n)
step-EdgesFit graph s (steps.Start t) h a = kept-edges graph s h (apply graph s (steps.Start t)) (λ m. refl)
step-EdgesFit graph s (steps.Skip t n) h a = kept-edges graph s h (apply graph s (steps.Skip t n)) (λ m. same_outs s n _ (λ c. refl) m)
step-EdgesFit graph s (steps.Gather t n i) h a = kept-edges graph s h (apply graph s (steps.Gather t n i)) (λ m. same_outs s n _ (λ c. refl) m)
step-EdgesFit graph s (steps.Evaluate t n) h a = kept-edges graph s h (apply graph s (steps.Evaluate t n)) (λ m. same_outs s n (keep_found (found_now graph s t n)) (λ c. refl) m)
step-EdgesFit graph s (steps.Body t n) h a = kept-edges graph s h (apply graph s (steps.Body t n)) (λ m. same_outs s n _ (λ c. refl) m)
step-EdgesFit graph s (steps.Resolve t n) h a =
    let q = finish s t n (value_now graph s t n) (is_change graph s t n) (found_picks s n) in
    kept-edges graph s h (apply graph s (steps.Resolve t n)) (λ m. same_outs q n cleared (λ c. refl) m ∙ same_outs s n _ (λ c. refl) m)
step-EdgesFit graph s (steps.Discover t n c) h a = discovered-edges graph s t n c h a
step-EdgesFit graph s (steps.Drop t n o) h a = dropped-edges graph s t n o h
step-EdgesFit graph s (steps.Mark t n) h a = kept-edges graph s h (apply graph s (steps.Mark t n)) (λ m. same_outs s n (place_entry s t Mark) (λ c. refl) m)
step-EdgesFit graph s (steps.Look t) h a = kept-edges graph s h (apply graph s (steps.Look t)) (λ m. refl)
step-EdgesFit graph s (steps.End t) h a = kept-edges graph s h (apply graph s (steps.End t)) (λ m. refl)
step-EdgesFit graph s (steps.Collect n) h a = kept-edges graph s h (apply graph s (steps.Collect n)) (λ m. same_outs s n (collect s) (λ c. refl) m)

pub begin-EdgesFit : (graph : Graph) (s : Core) (caller : ℕ) (c : Call) → IsLawful graph s → EdgesFit graph (begin graph s caller c)
begin-EdgesFit graph s caller c h = record { candidate = h.edges_fit.candidate; different = h.edges_fit.different }
