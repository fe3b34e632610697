-- A live call's Done was due, or shows the picks that were there before it, after each step.
use Rattle.std.proofs.Common.{◌≡◌, ℕ, Bool, true, false, ◌&&◌, ◌||◌, not, ◌==◌, ◌⊎◌, inl, inr, refl, sym, ap, List, [], ◌∷◌, ◌∙◌, subst, Option, Some, None}
use Rattle.std.proofs.lemmas.Bool.{or_cases, and_from, eqb-true, eq-eqb, both_ways, cases_Bool, not-true}
use Rattle.std.specs.Prelude.{is_some}
use Rattle.std.specs.List.{AllZip}
use Rattle.script_tree.specs.declared.value.Value.{Value}
use Rattle.script_tree.proofs.Truths.{and_left, and_right}
use Rattle.signal_graph.specs.declared.node.Selector.{Selector}
use Rattle.signal_graph.specs.Graph.{Graph, is_in, is_source, node_at}
use Rattle.node_versions.specs.declared.entry.State.TheVariants.{Done}
use Rattle.node_versions.specs.declared.entry.Entry.{Entry}
use Rattle.node_versions.specs.Entries.{at, is_frame, is_done, before, last_done, state_of, picks_of, picks_at, picks_before, value_before, value_at, with_state}
use Rattle.node_versions.proofs.Collecting.{last_is_done}
use Rattle.node_versions.proofs.Places.{at-has}
use Rattle.flow_model.specs.declared.step.Step.{Step}
use Rattle.flow_model.specs.declared.step.Step.TheVariants as steps
use Rattle.flow_model.specs.Machine.State.{Core, LiveCall, Cell, Found, call_or, cell, live, entries, changes, with_cell}
use Rattle.flow_model.specs.Machine.Words.{can_work, at_front, pressed, touched, heads, found_picks, picks_of_found, found_now, body_now, value_now}
use Rattle.flow_model.specs.Machine.Changes.{ensure_mark, add_edge, drop_edge, finish}
use Rattle.flow_model.specs.Machine.Steps.{allowed, apply, gather, keep_found, keep_body, is_change, is_worked_out, collect}
use Rattle.flow_model.specs.Kept.Runs.{was_due}
use Rattle.flow_model.specs.Kept.Lawful.{IsLawful, IsPickOf}
use Rattle.flow_model.proofs.OneStep.WhoMayStep.{opens-live, frame-wants, skip-can_work, resolve-can_work, can_work-at_front, at_front-heads, at_front-executes, executes-live, mark-no_entry}
use Rattle.flow_model.proofs.OneList.InOrder.{last_done-has}
use Rattle.flow_model.proofs.OneList.OneEntryACall.{last_done-at}
use Rattle.flow_model.proofs.Wants.EarlierNodes.{before-unique, before-at, before-up_to, own-done}
use Rattle.flow_model.proofs.Wants.FramedWith.{heads-opens, opens-frame}
use Rattle.flow_model.proofs.OneList.Entering.{with_cell-cell}
use Rattle.flow_model.proofs.OneList.CallsAndCells.{without_call-other, without_call-same}
use Rattle.flow_model.proofs.FramesSpread.AfterDones.{found-touched}
use Rattle.flow_model.proofs.OneList.PicksBefore.{KeepsDone, same-picks, own-before, own-now, finished-done, collected-picks}
use Rattle.flow_model.proofs.Settled.WhatSettles.{touched-kept}
use Rattle.flow_model.proofs.Lengths.SameWork.{same-part}
use Rattle.flow_model.proofs.Settled.AfterOtherSteps.{ensured-picks, entered-picks}
use Rattle.flow_model.proofs.Settled.AfterDones.{Finishes, finish-Finishes, clear-Finishes}
use Rattle.flow_model.proofs.Settled.AfterFrame.{GetsFrame, frame-Frames}
use Rattle.flow_model.proofs.OneStep.WhoLivesAndFrames.{step-phases}
use Rattle.flow_model.proofs.OneStep.SameCallers.{phase-live}
use Rattle.flow_model.proofs.OneStep.CallsLiveOn.{Continues, step-continues, IsEnd}
use Rattle.flow_model.proofs.Ended.AfterEnd.{source-selectors}

abbrev pub IsNewOrKept : Graph → Core → ℕ → ℕ → Type 0
IsNewOrKept graph s u n = (was_due graph s u n ≡ true) ⊎ (picks_at (entries s n) u ≡ picks_before (entries s n) u)

abbrev pub NewPicks : Graph → Core → Type 0
NewPicks graph s = (u n : ℕ) → live s u ≡ true → at is_done (entries s n) u ≡ true → IsNewOrKept graph s u n

-- A Done that was there stays due, or its picks those before it.
kept : (graph : Graph) (s : Core) → IsLawful graph s → (q : Core) (u n : ℕ) → live s u ≡ true → ((m : ℕ) → changes s u m ≡ true → changes q u m ≡ true) → at is_done (entries q n) u ≡ true → KeepsDone (entries s n) (entries q n) u → IsNewOrKept graph q u n
kept graph s h q u n l c d k = go (h.entries_are_kept.new_picks u n l k.done)
  where
    go : (was_due graph s u n ≡ true) ⊎ (picks_at (entries s n) u ≡ picks_before (entries s n) u) → IsNewOrKept graph q u n
    go (inl x) = inl (and_from _ _ d (touched-kept graph q s u n (sym k.prior) c (and_right _ _ x)))
    go (inr x) = inr (k.now ∙ x ∙ sym k.prior)

-- ---- sources have no picks

no_zip : (ps : List (Option ℕ)) → AllZip IsPickOf [] ps → ps ≡ []
no_zip [] a = refl
no_zip (p ∷ ps) a = absurd a

source-prior : (graph : Graph) (s : Core) → IsLawful graph s → (t n : ℕ) → is_source (node_at graph n) ≡ true → picks_before (entries s n) t ≡ []
source-prior graph s h t n src = go (last_done (before (entries s n) t)) refl
  where
    go : (o : Option Entry) → last_done (before (entries s n) t) ≡ o → picks_of (state_of o) ≡ []
    go None e = refl
    go (Some x) e =
        let b = before (entries s n) t in
        let q = before-unique (entries s n) t (h.one_entry n) in
        let hx = last_done-has b x e in
        let d : at is_done (entries s n) x.version ≡ true = sym (before-at is_done (entries s n) t x.version (h.one_entry n) hx) ∙ last_done-at is_done b x q e ∙ last_is_done b x e in
        let own : picks_at (entries s n) x.version ≡ picks_of x.state = ap (λ (es : List Entry). picks_of (state_of (last_done es))) (sym (before-up_to (entries s n) t x.version hx)) ∙ ap (λ (o : Option Entry). picks_of (state_of o)) (own-done b x q e) in
        sym own ∙ no_zip (picks_at (entries s n) x.version) (subst (λ (xs : List Selector). AllZip IsPickOf xs (picks_at (entries s n) x.version)) (source-selectors (node_at graph n) src) (h.picks_fit x.version n d))

source-found : (graph : Graph) (s : Core) → IsLawful graph s → (t n : ℕ) → heads s t n ≡ true → is_source (node_at graph n) ≡ true → found_picks s n ≡ []
source-found graph s h t n hd src = go (cell s n).found refl
  where
    go : (o : Option Found) → (cell s n).found ≡ o → picks_of_found o ≡ []
    go None e = refl
    go (Some f) e = absurd (both_ways _ (not-true _ (and_left _ _ (found-touched graph s h t n hd (ap is_some e)))) src)

-- ---- the Done of Skip and Resolve

finished-new : (graph : Graph) (s : Core) → IsLawful graph s → (q : Core) (t n0 : ℕ) (v : Value) (c : Bool) (ps : List (Option ℕ)) → Finishes s q t n0 (Done v c ps) → Continues s q → heads s t n0 ≡ true
    → (at is_done (entries q n0) t ≡ true → picks_at (entries q n0) t ≡ ps → picks_before (entries q n0) t ≡ picks_before (entries s n0) t → IsNewOrKept graph q t n0) → NewPicks graph q
finished-new graph s h q t n0 v c ps f k hd mine u n l d = go (f.lists n)
  where
    frame : at is_frame (entries s n0) t ≡ true
    frame = opens-frame graph s h t n0 (heads-opens graph s h t n0 hd)

    ls : live s u ≡ true
    ls = sym (k.lives u) ∙ l

    own : entries q n0 ≡ with_state t (Done v c ps) (entries s n0) → at is_done (entries q n0) t ≡ true → IsNewOrKept graph q t n0
    own e x = mine x (ap (λ (es : List Entry). picks_at es t) e ∙ own-now t v c ps (entries s n0) (at-has is_frame (entries s n0) t frame)) (ap (λ (es : List Entry). picks_before es t) e ∙ own-before t (Done v c ps) (entries s n0))

    there : n ≡ n0 → entries q n ≡ with_state t (Done v c ps) (entries s n) → ((u == t) ≡ true) ⊎ ((u == t) ≡ false) → IsNewOrKept graph q u n
    there e g (inl x) =
        let w = eqb-true u t x in
        subst (λ (j : ℕ). IsNewOrKept graph q u j) (sym e) (subst (λ (j : ℕ). IsNewOrKept graph q j n0) (sym w)
        (own (subst (λ (j : ℕ). entries q j ≡ with_state t (Done v c ps) (entries s j)) e g) (subst (λ (j : ℕ). at is_done (entries q n0) j ≡ true) w (subst (λ (j : ℕ). at is_done (entries q j) u ≡ true) e d))))
    there e g (inr x) =
        let z = finished-done t v c ps (entries s n) u x (λ y b. h.frames_are_open.behind_dones n t y b (subst (λ (j : ℕ). at is_frame (entries s j) t ≡ true) (sym e) frame)) (subst (λ (es : List Entry). at is_done es u ≡ true) g d) in
        kept graph s h q u n ls (k.changed u) d (subst (λ (es : List Entry). KeepsDone (entries s n) es u) (sym g) z)

    go : (entries q n ≡ entries s n) ⊎ ((n ≡ n0) × (entries q n ≡ with_state t (Done v c ps) (entries s n))) → IsNewOrKept graph q u n
    go (inl e) = kept graph s h q u n ls (k.changed u) d ((same-picks (entries s n) (entries q n) u e).done d)
    go (inr e) = there e.0 e.1 (cases_Bool (u == t))

-- all calls go on where the step is no End
goes_on : (graph : Graph) (s : Core) (step : Step) → (IsEnd step → ⊥) → Continues s (apply graph s step)
goes_on graph s step other = go (step-continues graph s step)
  where
    go : Continues s (apply graph s step) ⊎ IsEnd step → Continues s (apply graph s step)
    go (inl k) = k
    go (inr e) = absurd (other e)

skipped-new : (graph : Graph) (s : Core) (t n : ℕ) → IsLawful graph s → allowed graph s (steps.Skip t n) ≡ true → Continues s (apply graph s (steps.Skip t n)) → NewPicks graph (apply graph s (steps.Skip t n))
skipped-new graph s t n h a k =
    let front = can_work-at_front graph s t n (skip-can_work graph s t n a) in
    finished-new graph s h (apply graph s (steps.Skip t n)) t n (value_before (entries s n) t) false (picks_before (entries s n) t) (finish-Finishes s t n _ _ _ (executes-live s t (at_front-executes graph s t n front))) k (at_front-heads graph s t n front)
    (λ d x y. inr (x ∙ sym y))

resolved-new : (graph : Graph) (s : Core) (t n : ℕ) → IsLawful graph s → allowed graph s (steps.Resolve t n) ≡ true → Continues s (apply graph s (steps.Resolve t n)) → NewPicks graph (apply graph s (steps.Resolve t n))
resolved-new graph s t n h a k = finished-new graph s h (apply graph s (steps.Resolve t n)) t n (value_now graph s t n) (is_change graph s t n) (found_picks s n)
    (clear-Finishes s (finish s t n (value_now graph s t n) (is_change graph s t n) (found_picks s n)) t n _ (finish-Finishes s t n _ _ _ (executes-live s t (at_front-executes graph s t n front)))) k hd mine
  where
    front : at_front graph s t n ≡ true
    front = can_work-at_front graph s t n (resolve-can_work graph s t n a)

    hd : heads s t n ≡ true
    hd = at_front-heads graph s t n front

    q : Core
    q = apply graph s (steps.Resolve t n)

    -- the node was due, or it is a source
    mine : at is_done (entries q n) t ≡ true → picks_at (entries q n) t ≡ found_picks s n → picks_before (entries q n) t ≡ picks_before (entries s n) t → IsNewOrKept graph q t n
    mine d x y = go (or_cases (is_source (node_at graph n)) (touched graph s t n && is_worked_out graph s t n) (and_right (can_work graph s t n && not (pressed s t n)) (is_source (node_at graph n) || (touched graph s t n && is_worked_out graph s t n)) a))
      where
        go : (is_source (node_at graph n) ≡ true) ⊎ ((touched graph s t n && is_worked_out graph s t n) ≡ true) → IsNewOrKept graph q t n
        go (inl src) = inr (x ∙ source-found graph s h t n hd src ∙ sym (y ∙ source-prior graph s h t n src))
        go (inr w) = inl (and_from _ _ d (touched-kept graph q s t n (sym y) (k.changed t) (and_left _ _ w)))

-- ---- the other steps

-- the Dones of live calls stay as they were
plain-new : (graph : Graph) (s q : Core) → IsLawful graph s → ((u : ℕ) → live q u ≡ true → live s u ≡ true) → ((u m : ℕ) → live q u ≡ true → changes s u m ≡ true → changes q u m ≡ true)
    → ((u n : ℕ) → live s u ≡ true → at is_done (entries q n) u ≡ true → KeepsDone (entries s n) (entries q n) u) → NewPicks graph q
plain-new graph s q h l c f u n lu d = kept graph s h q u n (l u lu) (λ m x. c u m lu x) d (f u n (l u lu) d)

on-new : (graph : Graph) (s q : Core) → IsLawful graph s → Continues s q → ((u n : ℕ) → live s u ≡ true → at is_done (entries q n) u ≡ true → KeepsDone (entries s n) (entries q n) u) → NewPicks graph q
on-new graph s q h k f = plain-new graph s q h (λ u l. sym (k.lives u) ∙ l) (λ u m _ c. k.changed u m c) f

same_lists-done : (s q : Core) → ((n : ℕ) → entries q n ≡ entries s n) → (u n : ℕ) → live s u ≡ true → at is_done (entries q n) u ≡ true → KeepsDone (entries s n) (entries q n) u
same_lists-done s q e u n l d = (same-picks (entries s n) (entries q n) u (e n)).done d

framed-done : (graph : Graph) (s : Core) (t n0 : ℕ) → IsLawful graph s → allowed graph s (steps.Frame t n0) ≡ true → (u n : ℕ) → live s u ≡ true → at is_done (entries (apply graph s (steps.Frame t n0)) n) u ≡ true → KeepsDone (entries s n) (entries (apply graph s (steps.Frame t n0)) n) u
framed-done graph s t n0 h a u n l d = go ((frame-Frames graph s t n0 h (frame-wants graph s t n0 a)).lists n)
  where
    q : Core
    q = apply graph s (steps.Frame t n0)

    go : (entries q n ≡ entries s n) ⊎ ((n ≡ n0) × GetsFrame t (entries s n) (entries q n)) → KeepsDone (entries s n) (entries q n) u
    go (inl e) = (same-picks (entries s n) (entries q n) u e).done d
    go (inr e) = e.1.done u d

ensured-done : (graph : Graph) (s : Core) → IsLawful graph s → (t c : ℕ) (q : Core) → ((n : ℕ) → entries q n ≡ entries (ensure_mark s t c) n) → (u n : ℕ) → live s u ≡ true → at is_done (entries q n) u ≡ true → KeepsDone (entries s n) (entries q n) u
ensured-done graph s h t c q e u n l d = subst (λ (es : List Entry). KeepsDone (entries s n) es u) (sym (e n)) ((ensured-picks graph s h t c u n).done (subst (λ (es : List Entry). at is_done es u ≡ true) (e n) d))

collected-done : (graph : Graph) (s : Core) → IsLawful graph s → (n0 u n : ℕ) → live s u ≡ true → at is_done (entries (with_cell s n0 (collect s)) n) u ≡ true → KeepsDone (entries s n) (entries (with_cell s n0 (collect s)) n) u
collected-done graph s h n0 u n l d = go (with_cell-cell s n0 (collect s) n)
  where
    q : Core
    q = with_cell s n0 (collect s)

    not_ended : (y : ℕ) → not (live s y) ≡ true → live s y ≡ false
    not_ended y k = not-true _ k

    go : (cell q n ≡ cell s n) ⊎ ((n ≡ n0) × (cell q n ≡ collect s (cell s n))) → KeepsDone (entries s n) (entries q n) u
    go (inl e) = (same-picks (entries s n) (entries q n) u (ap (λ (x : Cell). x.entries) e)).done d
    go (inr e) = subst (λ (x : Cell). KeepsDone (entries s n) x.entries u) (sym e.1)
        ((collected-picks (λ v. not (live s v)) (entries s n) u (h.one_entry n) (λ x y b k. ap not (h.ended_is_prefix.prefix n x y b (not_ended y k))) (λ x f. ap not (opens-live s x n (h.frames_are_open.opens_frames x n ∙ f))) (ap not l)).done
        (subst (λ (x : Cell). at is_done x.entries u ≡ true) e.1 d))

ended-new : (graph : Graph) (s : Core) (t : ℕ) → IsLawful graph s → allowed graph s (steps.End t) ≡ true → NewPicks graph (apply graph s (steps.End t))
ended-new graph s t h a = plain-new graph s q h (λ u l. phase-live s q (step-phases graph s (steps.End t) a) u l) (λ u m l c. go u m l c (cases_Bool (u == t))) (same_lists-done s q (λ n. refl))
  where
    q : Core
    q = apply graph s (steps.End t)

    go : (u m : ℕ) → live q u ≡ true → changes s u m ≡ true → ((u == t) ≡ true) ⊎ ((u == t) ≡ false) → changes q u m ≡ true
    go u m l c (inl x) = absurd (both_ways _ (subst (λ (v : ℕ). live q v ≡ false) (sym (eqb-true u t x)) (ap is_some (without_call-same t s.calls))) l)
    go u m l c (inr x) = ap (λ (o : Option LiveCall). is_in m (call_or o).changed) (without_call-other t u s.calls (λ y. both_ways _ x (eq-eqb u t y))) ∙ c

pub step-NewPicks : (graph : Graph) (s : Core) (step : Step) → IsLawful graph s → allowed graph s step ≡ true → NewPicks graph (apply graph s step)
step-NewPicks graph s (steps.Frame t n) h a = on-new graph s (apply graph s (steps.Frame t n)) h (goes_on graph s (steps.Frame t n) (λ e. cc)) (framed-done graph s t n h a)
step-NewPicks graph s (steps.Start t) h a = on-new graph s (apply graph s (steps.Start t)) h (goes_on graph s (steps.Start t) (λ e. cc)) (same_lists-done s (apply graph s (steps.Start t)) (λ n. refl))
step-NewPicks graph s (steps.Skip t n) h a = skipped-new graph s t n h a (goes_on graph s (steps.Skip t n) (λ e. cc))
step-NewPicks graph s (steps.Gather t n m) h a = on-new graph s (apply graph s (steps.Gather t n m)) h (goes_on graph s (steps.Gather t n m) (λ e. cc)) (same_lists-done s (apply graph s (steps.Gather t n m)) (λ i. same-part (λ x. x.entries) s n (gather m (value_at (entries s m) t)) (λ x. refl) i))
step-NewPicks graph s (steps.Evaluate t n) h a = on-new graph s (apply graph s (steps.Evaluate t n)) h (goes_on graph s (steps.Evaluate t n) (λ e. cc)) (same_lists-done s (apply graph s (steps.Evaluate t n)) (λ i. same-part (λ x. x.entries) s n (keep_found (found_now graph s t n)) (λ x. refl) i))
step-NewPicks graph s (steps.Body t n) h a = on-new graph s (apply graph s (steps.Body t n)) h (goes_on graph s (steps.Body t n) (λ e. cc)) (same_lists-done s (apply graph s (steps.Body t n)) (λ i. same-part (λ x. x.entries) s n (keep_body (body_now graph s n)) (λ x. refl) i))
step-NewPicks graph s (steps.Resolve t n) h a = resolved-new graph s t n h a (goes_on graph s (steps.Resolve t n) (λ e. cc))
step-NewPicks graph s (steps.Discover t n c) h a = on-new graph s (apply graph s (steps.Discover t n c)) h (goes_on graph s (steps.Discover t n c) (λ e. cc)) (ensured-done graph s h t c (apply graph s (steps.Discover t n c)) (λ i. same-part (λ x. x.entries) (ensure_mark s t c) c (add_edge n t) (λ x. refl) i))
step-NewPicks graph s (steps.Drop t n o) h a = on-new graph s (apply graph s (steps.Drop t n o)) h (goes_on graph s (steps.Drop t n o) (λ e. cc)) (ensured-done graph s h t o (apply graph s (steps.Drop t n o)) (λ i. same-part (λ x. x.entries) (ensure_mark s t o) o (drop_edge n) (λ x. refl) i))
step-NewPicks graph s (steps.Mark t m) h a = on-new graph s (apply graph s (steps.Mark t m)) h (goes_on graph s (steps.Mark t m) (λ e. cc)) (λ u n l d. (entered-picks graph s h t m (mark-no_entry graph s t m a) u n).done d)
step-NewPicks graph s (steps.Look t) h a = on-new graph s (apply graph s (steps.Look t)) h (goes_on graph s (steps.Look t) (λ e. cc)) (same_lists-done s (apply graph s (steps.Look t)) (λ n. refl))
step-NewPicks graph s (steps.End t) h a = ended-new graph s t h a
step-NewPicks graph s (steps.Collect n) h a = on-new graph s (apply graph s (steps.Collect n)) h (goes_on graph s (steps.Collect n) (λ e. cc)) (collected-done graph s h n)
