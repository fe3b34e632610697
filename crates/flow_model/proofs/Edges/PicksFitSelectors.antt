-- The picks of each Done fit the selectors, after each step.
use Rattle.std.proofs.Common.{◌≡◌, ℕ, ◌<◌, Bool, true, false, ◌&&◌, ◌||◌, not, ◌==◌, ◌⊎◌, ◌≢◌, inl, inr, refl, sym, ap, arith, List, [], length, true≢false, ◌∙◌, subst, Option, Some, None}
use Rattle.std.proofs.lemmas.Bool.{eqb-true, eq-eqb, false_from_ne_true, both_ways, cases_Bool}
use Rattle.std.specs.Prelude.{is_some}
use Rattle.std.specs.List.{AllZip}
use Rattle.script_tree.specs.declared.value.Value.{Value}
use Rattle.script_tree.proofs.Truths.{and_left, and_right}
use Rattle.signal_graph.specs.declared.call.Call.{Call}
use Rattle.signal_graph.specs.declared.node.Node.{Node}
use Rattle.signal_graph.specs.declared.node.Node.TheVariants.{Source, Signal, Fold, Choose}
use Rattle.signal_graph.specs.Graph.{Graph, node_at, is_source, selectors_of}
use Rattle.node_versions.specs.declared.entry.State.{State}
use Rattle.node_versions.specs.declared.entry.State.TheVariants.{Mark, Frame, Done}
use Rattle.node_versions.specs.declared.entry.Entry.{Entry}
use Rattle.node_versions.specs.Entries.{IsUnique, is_done, is_frame, has, at, placed, with_state, last_done, picks_of, state_of, picks_before, value_before}
use Rattle.node_versions.proofs.Collecting.{last_is_done}
use Rattle.node_versions.proofs.Places.{at-has}
use Rattle.flow_model.specs.declared.step.Step.{Step}
use Rattle.flow_model.specs.declared.step.Step.TheVariants as steps
use Rattle.flow_model.specs.Machine.State.{Core, Found, cell, live, entries}
use Rattle.flow_model.specs.Machine.Words.{heads, at_front, touched, is_found, picks_of_found, found_picks, value_now}
use Rattle.flow_model.specs.Machine.Changes.{stops, stops_call, new_entry}
use Rattle.flow_model.specs.Machine.Steps.{allowed, apply, begin, is_change, is_worked_out}
use Rattle.flow_model.specs.Kept.Lawful.{IsLawful, IsPickOf, PicksFit}
use Rattle.flow_model.proofs.OneStep.WhoMayStep.{skip-can_work, resolve-can_work, can_work-at_front, at_front-heads}
use Rattle.flow_model.proofs.OneList.StatesAndPlaces.{with_state-at}
use Rattle.flow_model.proofs.OneList.OneEntryACall.{placed-at_other, placed-at, collected-at, last_done-at}
use Rattle.flow_model.proofs.OrderStays.OpenNodesHaveFrames.{entry-there}
use Rattle.flow_model.proofs.Wants.FramedWith.{opens-frame, heads-opens}
use Rattle.flow_model.proofs.Reactions.WhereRunsBegin.{before-last}
use Rattle.flow_model.proofs.FramesSpread.AfterCollect.{no_last-none}
use Rattle.flow_model.proofs.Edges.EdgesFitCandidates.{found-fits}
use Rattle.flow_model.proofs.OneStep.QuietSteps.{QuietStep, stays, marks, frames, raises, collects, step-quiet, skipped-list, resolved-list}
use Rattle.flow_model.proofs.OneList.OwnEntries.{own, own-done_at, placed-own, with_state-own, with_state-own_it, collected-own, last_done-own}

-- the picks of each Done of a list of the node
abbrev Fits : Graph → ℕ → List Entry → Type 0
Fits graph n es = (u : ℕ) → at is_done es u ≡ true → AllZip IsPickOf (selectors_of (node_at graph n)) (picks_of (own es u))

lawful-fits : (graph : Graph) (s : Core) → IsLawful graph s → (n : ℕ) → Fits graph n (entries s n)
lawful-fits graph s h n u d = subst (λ (x : State). AllZip IsPickOf (selectors_of (node_at graph n)) (picks_of x)) (own-done_at (entries s n) u d) (h.picks_fit u n d)

placed-fits : (graph : Graph) (s : Core) (t n : ℕ) (x : State) → is_done x ≡ false → has (entries s n) t ≡ false → Fits graph n (entries s n) → Fits graph n (placed (stops s t) (new_entry s t x) (entries s n))
placed-fits graph s t n x nd fresh f u d = go (cases_Bool (u == t))
  where
    es : List Entry
    es = entries s n

    go : ((u == t) ≡ true) ⊎ ((u == t) ≡ false) → AllZip IsPickOf (selectors_of (node_at graph n)) (picks_of (own (placed (stops s t) (new_entry s t x) es) u))
    go (inl e) = absurd (both_ways _ (placed-at is_done (stops_call s t) (new_entry s t x) es fresh ∙ nd) (subst (λ (v : ℕ). at is_done (placed (stops s t) (new_entry s t x) es) v ≡ true) (eqb-true u t e) d))
    go (inr e) =
        let ne : u ≢ t = λ k. both_ways _ e (eq-eqb u t k) in
        subst (λ (y : State). AllZip IsPickOf (selectors_of (node_at graph n)) (picks_of y)) (sym (placed-own (stops_call s t) (new_entry s t x) es u ne)) (f u (sym (placed-at_other is_done (stops_call s t) (new_entry s t x) es u ne) ∙ d))

-- another state of the call's entry: no Done, or one whose picks fit
stated-fits : (graph : Graph) (n t : ℕ) (x : State) (es : List Entry) → has es t ≡ true → (is_done x ≡ true → AllZip IsPickOf (selectors_of (node_at graph n)) (picks_of x)) → Fits graph n es → Fits graph n (with_state t x es)
stated-fits graph n t x es ht new f u d = go (cases_Bool (u == t)) (with_state-at is_done t x es u)
  where
    go : ((u == t) ≡ true) ⊎ ((u == t) ≡ false) → at is_done (with_state t x es) u ≡ elim (u == t) as (λ _. Bool) [ true ↦ has es t && is_done x | false ↦ at is_done es u ] → AllZip IsPickOf (selectors_of (node_at graph n)) (picks_of (own (with_state t x es) u))
    go (inl e) w =
        let y : is_done x ≡ true = taken (u == t) (has es t) (is_done x) (at is_done es u) (at is_done (with_state t x es) u) e w d in
        subst (λ (v : ℕ). AllZip IsPickOf (selectors_of (node_at graph n)) (picks_of (own (with_state t x es) v))) (sym (eqb-true u t e))
        (subst (λ (z : State). AllZip IsPickOf (selectors_of (node_at graph n)) (picks_of z)) (sym (with_state-own_it t x es ht)) (new y))
      where
        taken : (b c y z a : Bool) → b ≡ true → a ≡ elim b as (λ _. Bool) [ true ↦ c && y | false ↦ z ] → a ≡ true → y ≡ true
        taken b c y z a h k j = grind (arith, h, k, j)
    go (inr e) w = subst (λ (z : State). AllZip IsPickOf (selectors_of (node_at graph n)) (picks_of z)) (sym (with_state-own t x es u e)) (f u (sym (rw e at w) ∙ d))

quiet-fits : (graph : Graph) (s : Core) (n : ℕ) → IsUnique (entries s n) → Fits graph n (entries s n) → (es : List Entry) → QuietStep graph s n es → Fits graph n es
quiet-fits graph s n q f es (stays e) = subst (Fits graph n) (sym e) f
quiet-fits graph s n q f es (marks t x fresh e) = subst (Fits graph n) (sym e) (placed-fits graph s t n Mark refl fresh f)
quiet-fits graph s n q f es (frames t w fresh e) = subst (Fits graph n) (sym e) (placed-fits graph s t n Frame refl fresh f)
quiet-fits graph s n q f es (raises t w m e) = subst (Fits graph n) (sym e) (stated-fits graph n t Frame (entries s n) (at-has _ (entries s n) t m) (λ k. absurd (true≢false (sym k))) f)
quiet-fits graph s n q f es (collects e) = subst (Fits graph n) (sym e) (λ u d.
    let p = λ (v : ℕ). not (live s v) in
    subst (λ (z : State). AllZip IsPickOf (selectors_of (node_at graph n)) (picks_of z)) (sym (collected-own p (entries s n) u q (at-has is_done _ u d))) (f u (collected-at is_done p (entries s n) u q d)))

fits-picks : (graph : Graph) (q : Core) → ((n : ℕ) → Fits graph n (entries q n)) → PicksFit graph q
fits-picks graph q f u n d = subst (λ (x : State). AllZip IsPickOf (selectors_of (node_at graph n)) (picks_of x)) (sym (own-done_at (entries q n) u d)) (f n u d)

kept-picks : (graph : Graph) (s : Core) (step : Step) → IsLawful graph s → ((m : ℕ) → QuietStep graph s m (entries (apply graph s step) m)) → PicksFit graph (apply graph s step)
kept-picks graph s step h k = fits-picks graph (apply graph s step) (λ n. quiet-fits graph s n (h.one_entry n) (lawful-fits graph s h n) (entries (apply graph s step) n) (k n))

-- ---- the picks with which a call finishes

-- The last Done's picks fit.
last-fit : (graph : Graph) (s : Core) → IsLawful graph s → (n : ℕ) → n < length s.cells → AllZip IsPickOf (selectors_of (node_at graph n)) (picks_of (state_of (last_done (entries s n))))
last-fit graph s h n there = go (last_done (entries s n)) refl
  where
    es : List Entry
    es = entries s n

    go : (o : Option Entry) → last_done es ≡ o → AllZip IsPickOf (selectors_of (node_at graph n)) (picks_of (state_of o))
    go None e = let d = h.ended_is_prefix.done n there in absurd (both_ways _ (no_last-none es d.0 e) d.2)
    go (Some x) e = subst (λ (z : State). AllZip IsPickOf (selectors_of (node_at graph n)) (picks_of z)) (last_done-own es x (h.one_entry n) e) (lawful-fits graph s h n x.version (last_done-at is_done es x (h.one_entry n) e ∙ last_is_done es x e))

head-frame : (graph : Graph) (s : Core) → IsLawful graph s → (t n : ℕ) → at_front graph s t n ≡ true → at is_frame (entries s n) t ≡ true
head-frame graph s h t n f = opens-frame graph s h t n (heads-opens graph s h t n (at_front-heads graph s t n f))

skip-fit : (graph : Graph) (s : Core) → IsLawful graph s → (t n : ℕ) → at_front graph s t n ≡ true → AllZip IsPickOf (selectors_of (node_at graph n)) (picks_before (entries s n) t)
skip-fit graph s h t n f =
    let fr = head-frame graph s h t n f in
    subst (λ (o : Option Entry). AllZip IsPickOf (selectors_of (node_at graph n)) (picks_of (state_of o))) (sym (before-last (entries s n) t (h.one_entry n) fr (λ v b. h.frames_are_open.behind_dones n t v b fr)))
    (last-fit graph s h n (entry-there s n t (at-has is_frame (entries s n) t fr)))

-- A node that is no source is worked out where it is resolved, and so has found something.
pub resolve-rest : (graph : Graph) (s : Core) (t n : ℕ) → allowed graph s (steps.Resolve t n) ≡ true → (is_source (node_at graph n) || (touched graph s t n && is_worked_out graph s t n)) ≡ true
resolve-rest graph s t n a = and_right _ _ a

pub worked-found : (graph : Graph) (s : Core) (t n : ℕ) → is_worked_out graph s t n ≡ true → is_found s n ≡ true
worked-found graph s t n w = and_left _ _ (and_left _ _ (and_left _ _ (and_left _ _ w)))

resolve-fit : (graph : Graph) (s : Core) → IsLawful graph s → (t n : ℕ) → allowed graph s (steps.Resolve t n) ≡ true → AllZip IsPickOf (selectors_of (node_at graph n)) (found_picks s n)
resolve-fit graph s h t n a = go (cell s n).found refl
  where
    hd : heads s t n ≡ true
    hd = at_front-heads graph s t n (can_work-at_front graph s t n (resolve-can_work graph s t n a))

    sourced : (d : Node) → is_source d ≡ true → AllZip IsPickOf (selectors_of d) []
    sourced (Source v) e = tt
    sourced (Signal script inputs) e = tt
    sourced (Fold v script inputs) e = tt
    sourced (Choose selectors body inputs) e = absurd (true≢false (sym e))

    -- a node that is no source has found something
    source : (cell s n).found ≡ None → is_source (node_at graph n) ≡ true
    source e = cases (is_source (node_at graph n)) (touched graph s t n) (is_worked_out graph s t n) (false_from_ne_true _ (λ y. both_ways (is_found s n) (ap (λ (x : Option Found). is_some x) e) (worked-found graph s t n y))) (resolve-rest graph s t n a)
      where
        cases : (x y w : Bool) → w ≡ false → (x || (y && w)) ≡ true → x ≡ true
        cases x y w h k = grind (arith, h, k)

    go : (o : Option Found) → (cell s n).found ≡ o → AllZip IsPickOf (selectors_of (node_at graph n)) (picks_of_found o)
    go None e = sourced (node_at graph n) (source e)
    go (Some f) e = subst (λ (x : Found). AllZip IsPickOf (selectors_of (node_at graph n)) (picks_of_found (Some x))) (sym (h.values_are_read.found t n f hd e)) (found-fits (node_at graph n) _ _)

finished-fits : (graph : Graph) (s : Core) → IsLawful graph s → (q : Core) (t n0 : ℕ) (v : Value) (c : Bool) (ps : List (Option ℕ)) → at_front graph s t n0 ≡ true → AllZip IsPickOf (selectors_of (node_at graph n0)) ps
    → ((m : ℕ) → (entries q m ≡ entries s m) ⊎ ((m ≡ n0) × (entries q m ≡ with_state t (Done v c ps) (entries s m)))) → PicksFit graph q
finished-fits graph s h q t n0 v c ps front fit lists = fits-picks graph q (λ n. go n (lists n))
  where
    go : (n : ℕ) → (entries q n ≡ entries s n) ⊎ ((n ≡ n0) × (entries q n ≡ with_state t (Done v c ps) (entries s n))) → Fits graph n (entries q n)
    go n (inl e) = subst (Fits graph n) (sym e) (lawful-fits graph s h n)
    go n (inr e) = subst (Fits graph n) (sym e.1) (stated-fits graph n t (Done v c ps) (entries s n)
        (subst (λ (j : ℕ). has (entries s j) t ≡ true) (sym e.0) (at-has is_frame (entries s n0) t (head-frame graph s h t n0 front)))
        (λ _. subst (λ (j : ℕ). AllZip IsPickOf (selectors_of (node_at graph j)) ps) (sym e.0) fit) (lawful-fits graph s h n))

pub step-PicksFit : (graph : Graph) (s : Core) (step : Step) → IsLawful graph s → allowed graph s step ≡ true → PicksFit graph (apply graph s step)
step-PicksFit graph s (steps.Skip t n) h a =
    let f = can_work-at_front graph s t n (skip-can_work graph s t n a) in
    finished-fits graph s h (apply graph s (steps.Skip t n)) t n (value_before (entries s n) t) false (picks_before (entries s n) t) f (skip-fit graph s h t n f) (skipped-list graph s t n)
step-PicksFit graph s (steps.Resolve t n) h a =
    finished-fits graph s h (apply graph s (steps.Resolve t n)) t n (value_now graph s t n) (is_change graph s t n) (found_picks s n) (can_work-at_front graph s t n (resolve-can_work graph s t n a)) (resolve-fit graph s h t n a) (resolved-list graph s t n)
step-PicksFit graph s (steps.Frame t n) h a = kept-picks graph s (steps.Frame t n) h (step-quiet graph s (steps.Frame t n) h a refl)
step-PicksFit graph s (steps.Start t) h a = kept-picks graph s (steps.Start t) h (step-quiet graph s (steps.Start t) h a refl)
step-PicksFit graph s (steps.Gather t n i) h a = kept-picks graph s (steps.Gather t n i) h (step-quiet graph s (steps.Gather t n i) h a refl)
step-PicksFit graph s (steps.Evaluate t n) h a = kept-picks graph s (steps.Evaluate t n) h (step-quiet graph s (steps.Evaluate t n) h a refl)
step-PicksFit graph s (steps.Body t n) h a = kept-picks graph s (steps.Body t n) h (step-quiet graph s (steps.Body t n) h a refl)
step-PicksFit graph s (steps.Discover t n c) h a = kept-picks graph s (steps.Discover t n c) h (step-quiet graph s (steps.Discover t n c) h a refl)
step-PicksFit graph s (steps.Drop t n o) h a = kept-picks graph s (steps.Drop t n o) h (step-quiet graph s (steps.Drop t n o) h a refl)
step-PicksFit graph s (steps.Mark t n) h a = kept-picks graph s (steps.Mark t n) h (step-quiet graph s (steps.Mark t n) h a refl)
step-PicksFit graph s (steps.Look t) h a = kept-picks graph s (steps.Look t) h (step-quiet graph s (steps.Look t) h a refl)
step-PicksFit graph s (steps.End t) h a = kept-picks graph s (steps.End t) h (step-quiet graph s (steps.End t) h a refl)
step-PicksFit graph s (steps.Collect n) h a = kept-picks graph s (steps.Collect n) h (step-quiet graph s (steps.Collect n) h a refl)

pub begin-PicksFit : (graph : Graph) (s : Core) (caller : ℕ) (c : Call) → IsLawful graph s → PicksFit graph (begin graph s caller c)
begin-PicksFit graph s caller c h u n d = h.picks_fit u n d
