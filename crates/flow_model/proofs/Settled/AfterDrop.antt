-- After Drop no Frame stands before the entry that it settles: who frames there has the choose node open or wants it, and comes after.
use Rattle.std.proofs.Common.{◌≡◌, ℕ, ◌<◌, zero, suc, Bool, true, false, not, ◌==◌, ◌⊎◌, inl, inr, refl, sym, ap, arith, List, [], ◌∷◌, length, true≢false, ◌∙◌, subst, Option, Some, None}
use Rattle.std.specs.Prelude.{is_some}
use Rattle.std.proofs.lemmas.List.Folds.{list_any-append}
use Rattle.std.proofs.lemmas.Bool.{or_cases, or_left, or_right, and_from, eqb-true, eq-eqb, false_from_ne_true, both_ways, cases_Bool, true_from_ne_false}
use Rattle.script_tree.proofs.Truths.{and_left, and_right}
use Rattle.signal_graph.specs.Graph.{Graph, is_in, node_at, inputs_of}
use Rattle.order_graph.specs.Order.{reaches}
use Rattle.order_graph.proofs.Reaching.{reaches-join}
use Rattle.node_versions.specs.declared.entry.State.TheVariants.{Mark}
use Rattle.node_versions.specs.declared.entry.Entry.{Entry}
use Rattle.node_versions.specs.Entries.{has, at, is_frame, behind, has_node}
use Rattle.node_versions.proofs.Places.{at-has}
use Rattle.flow_model.specs.declared.step.Step.TheVariants as steps
use Rattle.flow_model.specs.Machine.State.{Core, Cell, cell, live, executes, entries, outs, opens, wants, precedes, with_cell}
use Rattle.flow_model.specs.Machine.Words.{heads, at_front, deps, prior_picks, is_prior, gathered_of}
use Rattle.flow_model.specs.Machine.Changes.{stops_call, new_entry, place_entry, enter, ensure_mark, drop_edge, remove_first}
use Rattle.flow_model.specs.Machine.Steps.{allowed, apply}
use Rattle.flow_model.specs.Kept.Runs.{Run, is_from, reacts, IsSettled, by_node}
use Rattle.flow_model.specs.Kept.Lawful.{IsLawful, OrderIsKept, FramingComesLast, picks_last, last_run_of}
use Rattle.flow_model.proofs.OneStep.WhoMayStep.{opens-live, executes-live, drop-due, due-can_work, can_work-at_front, at_front-heads, at_front-executes}
use Rattle.flow_model.proofs.OrderStays.AfterEachStep.{step-OrderIsKept}
use Rattle.flow_model.proofs.OrderStays.EntriesAndRoom.{step-FramingComesLast}
use Rattle.flow_model.proofs.OneList.StatesAndPlaces.{behind-total, first_open-none}
use Rattle.flow_model.proofs.OneList.OneEntryACall.{placed-has}
use Rattle.flow_model.proofs.OrderStays.NoFrameBeforeDones.{head-first}
use Rattle.flow_model.proofs.Wants.FramedWith.{opens-frame, heads-opens, live-chain, last-covers, no_frame-before, not_up_to-behind}
use Rattle.flow_model.proofs.Reactions.WhereRunsBegin.{seen-all}
use Rattle.flow_model.proofs.OneList.Entering.{with_cell-cell}
use Rattle.flow_model.proofs.OneStep.SameCallers.{ensured}
use Rattle.flow_model.proofs.Wants.WantsAreFree.{ensured-live}
use Rattle.flow_model.proofs.OrderStays.OpenNodesHaveFrames.{cell-there}
use Rattle.flow_model.proofs.Wants.WantsAreCovered.{ensured-reaches}
use Rattle.flow_model.proofs.FramesSpread.AfterOtherSteps.{removed-node}
use Rattle.flow_model.proofs.FramesSpread.AfterDiscover.{head-prior}
use Rattle.flow_model.proofs.FramesSpread.AfterDones.{front-no_open, heads-same}
use Rattle.flow_model.proofs.General.AnyAndAll.{any-in}
use Rattle.flow_model.proofs.Settled.WhatSettles.{HowSettled, settled-by, settled-or, KeepsPlaces, IsServed, by-nodes, SettledStays, settled-stays}
use Rattle.flow_model.proofs.Lengths.SameWork.{same-part}
use Rattle.flow_model.proofs.Settled.AfterOtherSteps.{ensured-calls, ensured-picks, ensured-places, ensured-read}
use Rattle.flow_model.proofs.OneList.PicksBefore.{KeepsPicks}

-- ---- the node's last run

-- Where the picks of the last Done have m, and the out-edge stands, each call that has m open makes the node react.
last-reacts : (graph : Graph) (s : Core) → IsLawful graph s → (w m n : ℕ) → opens s w m ≡ true → picks_last s n m ≡ true → has_node (outs s m) n ≡ true → reacts graph s w m n ≡ true
last-reacts graph s h w m n o p e = go (last_run_of s n m) refl
  where
    hw : has (entries s m) w ≡ true
    hw = at-has is_frame (entries s m) w (opens-frame graph s h w m o)

    from : (r : Run) → last_run_of s n m ≡ Some r → (z : Option ℕ) → r.begins ≡ z → is_from s m z w ≡ true
    from r k None x = refl
    from r k (Some b) x = true_from_ne_false _ (λ y. no_frame-before graph s h w m n r b o k x (not_up_to-behind (entries s m) w b hw y))

    go : (c : Option Run) → last_run_of s n m ≡ c → reacts graph s w m n ≡ true
    go None k = absurd (true≢false (sym p ∙ sym (seen-all m (entries s n)) ∙ ap is_some k))
    go (Some r) k = last-covers graph s w m n r hw k e (from r k r.begins refl)

-- a node with an out-edge is there
pub edge-there : (s : Core) (m n : ℕ) → has_node (outs s m) n ≡ true → m < length s.cells
edge-there s m n h = go s.cells m h
  where
    go : (cs : List Cell) (m : ℕ) → has_node (outs (record s { cells = cs }) m) n ≡ true → m < length cs
    go [] m k = absurd (true≢false (sym k))
    go (c ∷ cs) zero k = omega arith
    go (c ∷ cs) (suc m) k = let r = go cs m k in omega (arith, r)

-- ---- the entry at the dropped node

-- What Drop says of the call, the node and what it drops.
pub record Drops (graph : Graph) (s : Core) (t n o : ℕ) : Type 0 where
  pub front : at_front graph s t n ≡ true
  pub prior : is_prior s t n o ≡ true
  pub edge : has_node (outs s o) n ≡ true

drop-is : (graph : Graph) (s : Core) (t n o : ℕ) → allowed graph s (steps.Drop t n o) ≡ true → Drops graph s t n o
drop-is graph s t n o a = record {
  front = can_work-at_front graph s t n (due-can_work graph s t n (drop-due graph s t n o a));
  prior = and_right _ _ (and_left _ _ (and_left _ _ (and_left _ _ a)));
  edge = and_right _ _ (and_left _ _ a);
}

-- A call with a Frame at the dropped node is after the one that drops it.
frame-after : (graph : Graph) (s : Core) → IsLawful graph s → (t n o w : ℕ) → Drops graph s t n o → opens s w o ≡ true → (t == w) ≡ false → executes s w ≡ true → reaches s.pairs t w ≡ true
frame-after graph s h t n o w d ow ne xw = go (or_cases _ _ (h.frames_spread w o n (opens-frame graph s h w o ow) (last-reacts graph s h w o n ow (sym (head-prior graph s h t n o hd) ∙ d.prior) d.edge)))
  where
    hd : heads s t n ≡ true
    hd = at_front-heads graph s t n d.front

    lt : live s t ≡ true
    lt = executes-live s t (at_front-executes graph s t n d.front)

    -- each other open call stands behind the first
    behind_head : (v : ℕ) → opens s v n ≡ true → (t == v) ≡ false → reaches s.pairs t v ≡ true
    behind_head v ov nv = cases (or_cases _ _ (behind-total (entries s n) t v (at-has is_frame (entries s n) t (opens-frame graph s h t n (heads-opens graph s h t n hd))) (at-has is_frame (entries s n) v fv) (λ e. both_ways _ nv (eq-eqb t v e))))
      where
        fv : at is_frame (entries s n) v ≡ true
        fv = opens-frame graph s h v n ov

        cases : (behind (entries s n) t v ≡ true) ⊎ (behind (entries s n) v t ≡ true) → reaches s.pairs t v ≡ true
        cases (inl b) = live-chain s t v lt (h.order_is_kept.lists n t v b (opens-live s v n ov))
        cases (inr b) = absurd (both_ways _ (first_open-none (entries s n) t v (h.one_entry n) (head-first (entries s n) t hd) b) fv)

    go : (opens s w n ≡ true) ⊎ (wants s w n ≡ true) → reaches s.pairs t w ≡ true
    go (inl x) = behind_head w x ne
    go (inr x) =
        let c = h.wants_are_covered w n xw x in
        let r = live-chain s c.by.0 w (opens-live s c.by.0 n c.by.2) c.by.1 in
        cases c.by.0 c.by.2 r (cases_Bool (t == c.by.0))
      where
        cases : (v : ℕ) → opens s v n ≡ true → reaches s.pairs v w ≡ true → ((t == v) ≡ true) ⊎ ((t == v) ≡ false) → reaches s.pairs t w ≡ true
        cases v ov r (inl e) = subst (λ (j : ℕ). reaches s.pairs j w ≡ true) (sym (eqb-true t v e)) r
        cases v ov r (inr e) = reaches-join s.pairs t v w (behind_head v ov e) r

dropped-served : (graph : Graph) (s : Core) → IsLawful graph s → (t n o : ℕ) → Drops graph s t n o → (q : Core) → KeepsPlaces (live s) (entries s o) (entries q o) → has (entries q o) t ≡ true
    → OrderIsKept q → FramingComesLast q → ((u : ℕ) → live q u ≡ live s u) → ((u : ℕ) → executes q u ≡ executes s u) → ((u v : ℕ) → reaches s.pairs u v ≡ true → reaches q.pairs u v ≡ true) → IsServed (entries q o) t
dropped-served graph s h t n o d q places entry order phases ls xs grows = record {
  entry = entry;
  no_frame = false_from_ne_true _ (λ f. closed (places.frame t f));
  none_before = λ w b. false_from_ne_true _ (λ f. before w b (places.frame w f) (cases_Bool (t == w)));
}
  where
    xt : executes s t ≡ true
    xt = at_front-executes graph s t n d.front

    lt : live q t ≡ true
    lt = ls t ∙ executes-live s t xt

    closed : at is_frame (entries s o) t ≡ true → ⊥
    closed f = both_ways _ (front-no_open graph s t n d.front) (any-in (opens s t) (deps graph s t n) o (list_any-append (λ x. x == o) (inputs_of (node_at graph n)) (prior_picks s t n) ∙ or_right (is_in o (inputs_of (node_at graph n))) (is_in o (prior_picks s t n)) d.prior) (h.frames_are_open.opens_frames t o ∙ f))

    before : (w : ℕ) → behind (entries q o) w t ≡ true → at is_frame (entries s o) w ≡ true → ((t == w) ≡ true) ⊎ ((t == w) ≡ false) → ⊥
    before w b f (inl e) = closed (subst (λ (j : ℕ). at is_frame (entries s o) j ≡ true) (sym (eqb-true t w e)) f)
    before w b f (inr e) = both_ways _ (order.no_cycle t) (reaches-join q.pairs t w t (grows t w (frame-after graph s h t n o w d ow e xw)) (live-chain q w t lw p))
      where
        ow : opens s w o ≡ true
        ow = h.frames_are_open.opens_frames w o ∙ f

        lw : live q w ≡ true
        lw = ls w ∙ opens-live s w o ow

        p : precedes q w t ≡ true
        p = order.lists o w t b lt

        xw : executes s w ≡ true
        xw = sym (xs w) ∙ true_from_ne_false _ (λ x. both_ways _ (phases.before w t (and_from _ _ lw (ap not x)) (xs t ∙ xt)) p)

-- ---- the step

pub dropped-settled : (graph : Graph) (s : Core) (t n0 o : ℕ) → IsLawful graph s → allowed graph s (steps.Drop t n0 o) ≡ true → SettledStays graph (apply graph s (steps.Drop t n0 o))
dropped-settled graph s t n0 o h a = settled-stays graph s q h (by-nodes graph s q nodes (λ u m k. inl ((ensured-calls s t o).looked u m k))) places (λ u l. (ensured-calls s t o).lives u l)
  where
    p : Core
    p = ensure_mark s t o

    q : Core
    q = with_cell p o (drop_edge n0)

    d : Drops graph s t n0 o
    d = drop-is graph s t n0 o a

    xt : executes s t ≡ true
    xt = at_front-executes graph s t n0 d.front

    lists : (m : ℕ) → entries q m ≡ entries p m
    lists m = same-part (λ x. x.entries) p o (drop_edge n0) (λ x. refl) m

    places : (m : ℕ) → KeepsPlaces (live s) (entries s m) (entries q m)
    places m = subst (KeepsPlaces (live s) (entries s m)) (sym (lists m)) (ensured-places s t o (executes-live s t xt) m)

    entry : has (entries q o) t ≡ true
    entry = ap (λ (es : List Entry). has es t) (lists o) ∙ go (has (entries s o) t) refl
      where
        go : (b : Bool) → has (entries s o) t ≡ b → has (entries (elim b as (λ _. Core) [ true ↦ s | false ↦ enter s t o Mark ]) o) t ≡ true
        go true e = e
        go false e = ap (λ (x : Cell). has x.entries t) (cell-there s o (place_entry s t Mark) (edge-there s o n0 d.edge)) ∙ placed-has (stops_call s t) (new_entry s t Mark) (entries s o) t ∙ or_left _ _ (eq-eqb t t refl)

    served : IsServed (entries q o) t
    served = dropped-served graph s h t n0 o d q (places o) entry (step-OrderIsKept graph s (steps.Drop t n0 o) h a) (step-FramingComesLast graph s (steps.Drop t n0 o) h a)
        (λ u. ensured-live s t o u) (λ u. ensured (λ x. x.executing) s t o u) (λ u v r. ensured-reaches s t o u v (executes-live s t xt) r)

    edges-kept : (m n : ℕ) → has_node (outs s m) n ≡ has_node (outs p m) n
    edges-kept m n = sym (ensured-read (λ x. has_node x.outs n) s t o (λ x. refl) m)

    edges : (u m n : ℕ) → heads s u n ≡ true → has_node (outs q m) n ≡ false → (has_node (outs s m) n ≡ false) ⊎ IsServed (entries q m) u
    edges u m n x k = go (with_cell-cell p o (drop_edge n0) m)
      where
        removed : m ≡ o → has_node (remove_first n0 (outs p m)) n ≡ false → ((n == n0) ≡ true) ⊎ ((n == n0) ≡ false) → (has_node (outs s m) n ≡ false) ⊎ IsServed (entries q m) u
        removed e y (inr z) = inl (edges-kept m n ∙ sym (removed-node n0 n (outs p m) z) ∙ y)
        removed e y (inl z) =
            let w = heads-same s t u n0 (at_front-heads graph s t n0 d.front) (subst (λ (j : ℕ). heads s u j ≡ true) (eqb-true n n0 z) x) in
            inr (subst (λ (j : ℕ). IsServed (entries q j) u) (sym e) (subst (IsServed (entries q o)) (sym w) served))

        go : (cell q m ≡ cell p m) ⊎ ((m ≡ o) × (cell q m ≡ drop_edge n0 (cell p m))) → (has_node (outs s m) n ≡ false) ⊎ IsServed (entries q m) u
        go (inl e) = inl (edges-kept m n ∙ sym (ap (λ (y : Cell). has_node y.outs n) e) ∙ k)
        go (inr e) = removed e.0 (sym (ap (λ (y : Cell). has_node y.outs n) e.1) ∙ k) (cases_Bool (n == n0))

    nodes : (u m n : ℕ) → HowSettled graph q u m n → IsSettled graph s u m ⊎ IsServed (entries q m) u
    nodes u m n k = go (settled-or graph s q u m n (subst (λ (es : List Entry). KeepsPicks (entries s n) es u) (sym (lists n)) (ensured-picks graph s h t o u n)) (λ j c. (ensured-calls s t o).changed u j c)
        (λ _ y. inl (sym (ensured-read (λ x. is_some (gathered_of m x.gathered)) s t o (λ x. refl) n) ∙ sym (same-part (λ x. is_some (gathered_of m x.gathered)) p o (drop_edge n0) (λ x. refl) n) ∙ y))
        (λ x _ y. edges u m n x y) k)
      where
        go : HowSettled graph s u m n ⊎ IsServed (entries q m) u → IsSettled graph s u m ⊎ IsServed (entries q m) u
        go (inl x) = inl (by_node n (settled-by graph s u m n x))
        go (inr x) = inr x
