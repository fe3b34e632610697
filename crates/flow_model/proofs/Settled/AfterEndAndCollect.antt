-- End and Collect leave settled entries settled, with no Frame before them: what goes nobody reads any more.
use Rattle.std.proofs.Common.{◌≡◌, ℕ, Bool, true, false, not, ◌==◌, ◌⊎◌, inl, inr, refl, sym, ap, List, length, true≢false, ◌∙◌, subst, Option, None}
use Rattle.std.proofs.lemmas.Bool.{eqb-true, eq-eqb, false_from_ne_true, both_ways, cases_Bool}
use Rattle.std.specs.Prelude.{is_some, take}
use Rattle.script_tree.proofs.Truths.{and_right}
use Rattle.signal_graph.specs.Graph.{Graph, is_in}
use Rattle.signal_graph.specs.Values.{nodes_in}
use Rattle.node_versions.specs.Entries.{at, is_frame, is_done, behind, first_open, has_node, picks_before}
use Rattle.flow_model.specs.declared.step.Step.TheVariants as steps
use Rattle.flow_model.specs.Machine.State.{Core, LiveCall, Cell, call_of, call_or, cell, live, entries, outs, changes, with_cell}
use Rattle.flow_model.specs.Machine.Words.{heads, deps, touched, gathered_of, is_gathered}
use Rattle.flow_model.specs.Machine.Steps.{apply, collect, without_call}
use Rattle.flow_model.specs.Kept.Runs.{by_node}
use Rattle.flow_model.specs.Kept.Lawful.{IsLawful}
use Rattle.flow_model.proofs.OneStep.WhoMayStep.{opens-live}
use Rattle.flow_model.proofs.OneList.StatesAndPlaces.{first_open-frame}
use Rattle.flow_model.proofs.OrderStays.NoFrameBeforeDones.{head-first}
use Rattle.flow_model.proofs.OneList.Entering.{with_cell-cell}
use Rattle.flow_model.proofs.OneList.CallsAndCells.{without_call-other, without_call-same}
use Rattle.flow_model.proofs.FramesSpread.AfterCollect.{collected-first_open}
use Rattle.flow_model.proofs.OneList.PicksBefore.{KeepsPicks, same-picks, collected-picks, collected-first}
use Rattle.flow_model.proofs.Settled.WhatSettles.{HowSettled, by_gather, by_leaving, by_drop, by_due, settled-by, settled-before, KeepsPlaces, same-places, collected-places, by-nodes, SettledStays, settled-stays}
use Rattle.flow_model.proofs.Lengths.SameWork.{same-part}
use Rattle.flow_model.proofs.Settled.AfterOtherSteps.{KeepsCalls, same_cells-settled}
use Rattle.flow_model.proofs.ChangesSpread.AfterOtherSteps.{changes-live}
use Rattle.flow_model.proofs.General.AnyAndAll.{any-some}

-- ---- End

without-calls : (s : Core) (t : ℕ) (q : Core) → q.calls ≡ without_call t s.calls → KeepsCalls s q
without-calls s t q e = record {
  changed = λ u m k. go (λ o. is_in m (call_or o).changed) refl u (subst (λ (cs : List LiveCall). is_in m (call_or (call_of cs u)).changed ≡ true) e k);
  looked = λ u m k. go (λ o. is_in m (take (length (call_or o).looked) (call_or o).looks)) refl u (subst (λ (cs : List LiveCall). is_in m (take (length (call_or (call_of cs u)).looked) (call_or (call_of cs u)).looks) ≡ true) e k);
  lives = λ u k. go is_some refl u (subst (λ (cs : List LiveCall). is_some (call_of cs u) ≡ true) e k);
}
  where
    go : (read : Option LiveCall → Bool) → read None ≡ false → (u : ℕ) → read (call_of (without_call t s.calls) u) ≡ true → read (call_of s.calls u) ≡ true
    go read f u k = cases (cases_Bool (u == t))
      where
        cases : ((u == t) ≡ true) ⊎ ((u == t) ≡ false) → read (call_of s.calls u) ≡ true
        cases (inl x) = absurd (both_ways _ (ap (λ (v : ℕ). read (call_of (without_call t s.calls) v)) (eqb-true u t x) ∙ ap read (without_call-same t s.calls) ∙ f) k)
        cases (inr x) = sym (ap read (without_call-other t u s.calls (λ y. both_ways _ x (eq-eqb u t y)))) ∙ k

pub ended-settled : (graph : Graph) (s : Core) (t : ℕ) → IsLawful graph s → SettledStays graph (apply graph s (steps.End t))
ended-settled graph s t h = same_cells-settled graph s (apply graph s (steps.End t)) h (without-calls s t (apply graph s (steps.End t)) refl) refl

-- ---- Collect

touched-live : (graph : Graph) (s : Core) (u n : ℕ) → touched graph s u n ≡ true → live s u ≡ true
touched-live graph s u n k = let m = any-some (changes s u) (deps graph s u n) (and_right _ _ k) in changes-live s u m.0 m.1

frame-live : (graph : Graph) (s : Core) → IsLawful graph s → (n u : ℕ) → at is_frame (entries s n) u ≡ true → live s u ≡ true
frame-live graph s h n u f = opens-live s u n (h.frames_are_open.opens_frames u n ∙ f)

pub collected-settled : (graph : Graph) (s : Core) (n0 : ℕ) → IsLawful graph s → SettledStays graph (apply graph s (steps.Collect n0))
collected-settled graph s n0 h = settled-stays graph s q h (by-nodes graph s q (λ u m n k. inl (by_node n (settled-by graph s u m n (before u m n (with_cell-cell s n0 (collect s) n) k)))) (λ u m k. inl k)) (λ m. places m (with_cell-cell s n0 (collect s) m)) (λ u l. l)
  where
    q : Core
    q = with_cell s n0 (collect s)

    places : (m : ℕ) → (cell q m ≡ cell s m) ⊎ ((m ≡ n0) × (cell q m ≡ collect s (cell s m))) → KeepsPlaces (live s) (entries s m) (entries q m)
    places m (inl e) = same-places (live s) (entries s m) (entries q m) (ap (λ (x : Cell). x.entries) e)
    places m (inr e) = subst (λ (x : Cell). KeepsPlaces (live s) (entries s m) x.entries) (sym e.1) (collected-places (live s) (entries s m) (h.one_entry m) (λ u f. frame-live graph s h m u f))

    gathered : (n m : ℕ) → is_gathered q n m ≡ true → is_gathered s n m ≡ true
    gathered n m k = sym (same-part (λ x. is_some (gathered_of m x.gathered)) s n0 (collect s) (λ x. refl) n) ∙ k

    edges : (n m : ℕ) → has_node (outs q m) n ≡ false → has_node (outs s m) n ≡ false
    edges n m k = sym (same-part (λ x. has_node x.outs n) s n0 (collect s) (λ x. refl) m) ∙ k

    not_ended : (u : ℕ) → not (live s u) ≡ true → live s u ≡ false
    not_ended u k = false_from_ne_true _ (λ l. true≢false (sym k ∙ ap not l))

    prefix : (n x y : ℕ) → behind (entries s n) x y ≡ true → not (live s y) ≡ true → not (live s x) ≡ true
    prefix n x y b k = ap not (h.ended_is_prefix.prefix n x y b (not_ended y k))

    no_frame : (n x : ℕ) → at is_frame (entries s n) x ≡ true → not (live s x) ≡ false
    no_frame n x f = ap not (frame-live graph s h n x f)

    -- an ended call is no first open one
    head-live : (n u : ℕ) → cell q n ≡ collect s (cell s n) → heads q u n ≡ true → live s u ≡ true
    head-live n u e x =
        let f = sym (collected-first_open (λ v. not (live s v)) (entries s n) (h.one_entry n) (no_frame n)) ∙ ap (λ (y : Cell). first_open y.entries) (sym e) ∙ head-first (entries q n) u x in
        frame-live graph s h n u (first_open-frame (entries s n) u (h.one_entry n) f)

    of_ended : (u m n : ℕ) → live s u ≡ false → cell q n ≡ collect s (cell s n) → HowSettled graph q u m n → HowSettled graph s u m n
    of_ended u m n l e (by_gather x y) = absurd (both_ways _ l (head-live n u e x))
    of_ended u m n l e (by_drop p x y) = absurd (both_ways _ l (head-live n u e x))
    of_ended u m n l e (by_due d k i) = absurd (both_ways _ l (touched-live graph q u n k))
    of_ended u m n l e (by_leaving p d k) =
        let d2 = subst (λ (x : Cell). at is_done x.entries u ≡ true) e d in
        let none = ap (λ (x : Cell). picks_before x.entries u) e ∙ collected-first (λ v. not (live s v)) (entries s n) u (ap not l) d2 in
        absurd (true≢false (sym (subst (λ (ps : List (Option ℕ)). is_in m (nodes_in ps) ≡ true) none p)))

    before : (u m n : ℕ) → (cell q n ≡ cell s n) ⊎ ((n ≡ n0) × (cell q n ≡ collect s (cell s n))) → HowSettled graph q u m n → HowSettled graph s u m n
    before u m n (inl e) k = settled-before graph s q u m n (same-picks (entries s n) (entries q n) u (ap (λ (x : Cell). x.entries) e)) (λ j c. c) (gathered n m) (edges n m) k
    before u m n (inr e) k = cases (cases_Bool (live s u))
      where
        cases : (live s u ≡ true) ⊎ (live s u ≡ false) → HowSettled graph s u m n
        cases (inr l) = of_ended u m n l e.1 k
        cases (inl l) = settled-before graph s q u m n (subst (λ (x : Cell). KeepsPicks (entries s n) x.entries u) (sym e.1) (collected-picks (λ v. not (live s v)) (entries s n) u (h.one_entry n) (prefix n) (no_frame n) (ap not l))) (λ j c. c) (gathered n m) (edges n m) k
