-- A new Frame stands behind each settled entry, since the call that it waits for has its Frame behind each.
use Rattle.std.proofs.Common.{◌≡◌, ℕ, Bool, true, false, not, ◌==◌, ◌⊎◌, inl, inr, refl, sym, ap, arith, List, [], ◌∷◌, ◌++◌, true≢false, ◌∙◌, subst, Option, Some, None}
use Rattle.std.specs.Prelude.{is_some}
use Rattle.std.proofs.lemmas.Bool.Decides.{eqb_tells}
use Rattle.std.proofs.lemmas.Bool.{or_cases, or_right, and_from, eqb-true, eq-eqb, false_from_ne_true, both_ways, cases_Bool, true_from_ne_false}
use Rattle.script_tree.proofs.Numbers.{differs_back}
use Rattle.signal_graph.specs.Graph.{Graph, is_in}
use Rattle.signal_graph.specs.Values.{nodes_in}
use Rattle.order_graph.specs.Order.{reaches}
use Rattle.order_graph.proofs.Reaching.{reaches-join}
use Rattle.node_versions.specs.declared.entry.State.{State}
use Rattle.node_versions.specs.declared.entry.State.TheVariants.{Mark, Frame, Done}
use Rattle.node_versions.specs.declared.entry.Entry.{Entry}
use Rattle.node_versions.specs.Entries.{IsUnique, has, at, is_mark, is_frame, is_done, behind, front, rest, first_open, has_node, last_done, only_done, state_of, picks_of, picks_before, placed, with_state}
use Rattle.node_versions.proofs.KeptLemmas.{has-with_state}
use Rattle.node_versions.proofs.Places.{at-has}
use Rattle.flow_model.specs.declared.step.Step.TheVariants as steps
use Rattle.flow_model.specs.Machine.State.{Core, LiveCall, Cell, cell, live, executes, entries, outs, opens, wants, precedes}
use Rattle.flow_model.specs.Machine.Words.{active_outs, gathered_of, is_gathered, is_prior}
use Rattle.flow_model.specs.Machine.Changes.{stops_call, new_entry, place_entry, set_state, enter, raise, opened}
use Rattle.flow_model.specs.Machine.Steps.{allowed, apply, open_node, frame}
use Rattle.flow_model.specs.Kept.Runs.{IsSettled, by_node, by_look}
use Rattle.flow_model.specs.Kept.Lawful.{IsLawful, OrderIsKept, FramingComesLast, EndedIsPrefix, FramesAreOpen, SomeHead, IsWorking, picks_last}
use Rattle.flow_model.proofs.OneStep.WhoMayStep.{executes-live, opens-live, wants-live, frame-wants}
use Rattle.flow_model.proofs.OrderStays.AfterEachStep.{step-OrderIsKept, wanted-fresh}
use Rattle.flow_model.proofs.OrderStays.EntriesAndRoom.{step-FramingComesLast, step-EndedIsPrefix, step-one_entry}
use Rattle.flow_model.proofs.OneList.InOrder.{on_calls, front-rest}
use Rattle.flow_model.proofs.OneList.OneEntryACall.{placed-has, placed-at, placed-at_other}
use Rattle.flow_model.proofs.OneList.StatesAndPlaces.{behind-has, behind-total, with_state-at, with_state-behind, first_open-none}
use Rattle.flow_model.proofs.OrderStays.NoFrameBeforeDones.{head-first}
use Rattle.flow_model.proofs.Wants.FramedWith.{opens-frame, heads-opens, live-chain, before-not_after}
use Rattle.flow_model.proofs.Reactions.WhereRunsBegin.{before-last}
use Rattle.flow_model.proofs.Reactions.RunsThatHaveEnded.{not_both}
use Rattle.flow_model.proofs.Reactions.WhoReacts.{placed-behind}
use Rattle.flow_model.proofs.OneList.Entering.{with_cell-cell}
use Rattle.flow_model.proofs.OrderStays.OpenNodesHaveFrames.{step-FramesAreOpen}
use Rattle.flow_model.proofs.Wants.WantsAreCovered.{entered-reaches}
use Rattle.flow_model.proofs.OneList.CallsAndCells.{with_call-live, with_call-executes}
use Rattle.flow_model.proofs.OneList.PicksBefore.{KeepsDone, same-picks, placed-last_done, placed-before, placed-done, raised-last_done, raised-picks_before, raised-done}
use Rattle.flow_model.proofs.Settled.WhatSettles.{HowSettled, by_gather, by_leaving, by_drop, by_due, how, settled-by, settled-before, SettledStays, settled-executes}
use Rattle.flow_model.proofs.Lengths.SameWork.{same-part}
use Rattle.flow_model.proofs.Settled.AfterOtherSteps.{KeepsCalls, same-calls, with_call-calls}

-- ---- the list

-- The call t has a new Frame, or its Mark has become one; all else of the list is as it was.
pub record GetsFrame (t : ℕ) (es fs : List Entry) : Type 0 where
  pub done : (u : ℕ) → at is_done fs u ≡ true → KeepsDone es fs u
  pub head : (u : ℕ) → (t == u) ≡ false → first_open fs ≡ Some u → (first_open es ≡ Some u) × (picks_before fs u ≡ picks_before es u)
  pub last : last_done fs ≡ last_done es
  pub other : (u : ℕ) → (t == u) ≡ false → at is_frame fs u ≡ at is_frame es u
  pub framed : at is_frame fs t ≡ true
  pub order : (u v : ℕ) → (t == u) ≡ false → behind fs u v ≡ true → has es v ≡ true → behind es u v ≡ true
  pub entrant : (v : ℕ) → has fs v ≡ true → (t == v) ≡ false → has es v ≡ true
  pub stays_in : (u : ℕ) → has es u ≡ true → has fs u ≡ true

more-first : (xs ys : List Entry) (e : Entry) (u : ℕ) → (e.version == u) ≡ false → first_open (xs ++ e ∷ ys) ≡ Some u → first_open (xs ++ ys) ≡ Some u
more-first [] ys e u ne h = grind (arith, eqb_tells, ne, h)
more-first (x ∷ xs) ys e u ne h = let r = more-first xs ys e u ne in grind (arith, r, h)

raised-first : (t : ℕ) (es : List Entry) (u : ℕ) → (t == u) ≡ false → first_open (with_state t Frame es) ≡ Some u → first_open es ≡ Some u
raised-first t [] u ne h = h
raised-first t (e ∷ es) u ne h = let r = raised-first t es u ne in grind (arith, eqb_tells, r, ne, h)

placed-GetsFrame : (stops : ℕ → Bool) (e : Entry) (es : List Entry) → e.state ≡ Frame → IsUnique es → has es e.version ≡ false → GetsFrame e.version es (placed (on_calls stops) e es)
placed-GetsFrame stops e es f q fresh = record {
  done = λ u d. placed-done stops e es u fresh not_done none d;
  head = λ u ne k. (subst (λ (zs : List Entry). first_open zs ≡ Some u) (front-rest stops es) (more-first (front (on_calls stops) es) (rest (on_calls stops) es) e u ne k), placed-before stops e es u ne none);
  last = placed-last_done stops e es none;
  other = λ u ne. placed-at_other is_frame stops e es u (λ x. both_ways _ ne (eq-eqb e.version u (sym x)));
  framed = placed-at is_frame stops e es fresh ∙ ap is_frame f;
  order = λ u v ne b hv. sym (placed-behind stops e es u v ne (false_from_ne_true _ (λ x. both_ways _ fresh (subst (λ (w : ℕ). has es w ≡ true) (sym (eqb-true e.version v x)) hv)))) ∙ b;
  entrant = λ v k ne. new v ne (or_cases _ _ (sym (placed-has stops e es v) ∙ k));
  stays_in = λ u k. placed-has stops e es u ∙ or_right _ _ k;
}
  where
    not_done : is_done e.state ≡ false
    not_done = ap is_done f

    none : only_done e ≡ None
    none = rw (not_done, only_done) refl

    new : (v : ℕ) → (e.version == v) ≡ false → ((e.version == v) ≡ true) ⊎ (has es v ≡ true) → has es v ≡ true
    new v ne (inl x) = absurd (both_ways _ ne x)
    new v ne (inr x) = x

raised-GetsFrame : (t : ℕ) (es : List Entry) → at is_mark es t ≡ true → GetsFrame t es (with_state t Frame es)
raised-GetsFrame t es m = record {
  done = λ u d. raised-done t Frame es u no_done refl d;
  head = λ u ne k. (raised-first t es u ne k, raised-picks_before t Frame es u no_done refl);
  last = raised-last_done t Frame es no_done refl;
  other = λ u ne. let w = with_state-at is_frame t Frame es u in let n = differs_back t u ne in rw n at w;
  framed = let w = with_state-at is_frame t Frame es t in let e = eq-eqb t t refl in let ht = at-has is_mark es t m in grind (arith, w, e, ht);
  order = λ u v ne b hv. sym (with_state-behind t Frame es u v) ∙ b;
  entrant = λ v k ne. sym (has-with_state t Frame es v) ∙ k;
  stays_in = λ u k. has-with_state t Frame es u ∙ k;
}
  where
    mark-no_done : (es : List Entry) → at is_mark es t ≡ true → at is_done es t ≡ false
    mark-no_done [] h = refl
    mark-no_done (e ∷ es) h = go (e.version == t) h (mark-no_done es)
      where
        go : (b : Bool) → elim b as (λ _. Bool) [ true ↦ is_mark e.state | false ↦ at is_mark es t ] ≡ true → (at is_mark es t ≡ true → at is_done es t ≡ false) → elim b as (λ _. Bool) [ true ↦ is_done e.state | false ↦ at is_done es t ] ≡ false
        go false k r = r k
        go true k r = apart e.state k
          where
            apart : (x : State) → is_mark x ≡ true → is_done x ≡ false
            apart Mark k = refl
            apart Frame k = refl
            apart (Done v c ps) k = absurd (true≢false (sym k))

    no_done : at is_done es t ≡ false
    no_done = mark-no_done es m

-- ---- the state after it

pub record Frames (s q : Core) (t n : ℕ) : Type 0 where
  pub lists : (m : ℕ) → (entries q m ≡ entries s m) ⊎ ((m ≡ n) × GetsFrame t (entries s m) (entries q m))
  pub calls : KeepsCalls s q
  pub lives : (u : ℕ) → live q u ≡ live s u
  pub runs_on : (u : ℕ) → executes q u ≡ executes s u
  pub gathered : (i m : ℕ) → is_gathered q i m ≡ true → is_gathered s i m ≡ true
  pub edges : (i m : ℕ) → has_node (outs q m) i ≡ false → has_node (outs s m) i ≡ false
  pub grows : (u v : ℕ) → reaches s.pairs u v ≡ true → reaches q.pairs u v ≡ true

-- what is known of the state after the step besides
pub record KnownAfter (q : Core) : Type 0 where
  pub order : OrderIsKept q
  pub phases : FramingComesLast q
  pub ended : EndedIsPrefix q
  pub opens_frames : FramesAreOpen q
  pub unique : (n : ℕ) → IsUnique (entries q n)

-- Where t comes before a call that executes, and in the state before that call is not after t's, nor that which t waits for,
-- there is no such place: the call that has the node open for t is not at or behind that call.
framed-order : (graph : Graph) (s q : Core) → IsLawful graph s → (t n : ℕ) → wants s t n ≡ true → Frames s q t n → KnownAfter q → (v : ℕ) → executes s v ≡ true → behind (entries q n) t v ≡ true
    → ((w : ℕ) → opens s w n ≡ true → (w ≡ v) ⊎ (behind (entries s n) v w ≡ true)) → ⊥
framed-order graph s q h t n wt f k v xv b place = go (h.wants_are_covered t n xt wt).by
  where
    lv : live q v ≡ true
    lv = f.lives v ∙ executes-live s v xv

    lt : live q t ≡ true
    lt = f.lives t ∙ wants-live s t n wt

    p : precedes q t v ≡ true
    p = k.order.lists n t v b lv

    xt : executes s t ≡ true
    xt = sym (f.runs_on t) ∙ true_from_ne_false _ (λ x. both_ways _ (k.phases.before t v (and_from _ _ lt (ap not x)) (f.runs_on v ∙ xv)) p)

    cycle : reaches s.pairs v t ≡ true → ⊥
    cycle r = both_ways _ (k.order.no_cycle t) (reaches-join q.pairs t v t (live-chain q t v lt p) (f.grows v t r))

    go : (w : ℕ) × (precedes s w t ≡ true) × (opens s w n ≡ true) → ⊥
    go c = cases (place c.0 c.2)
      where
        r : reaches s.pairs c.0 t ≡ true
        r = live-chain s c.0 t (opens-live s c.0 n c.2) c.1

        cases : (c.0 ≡ v) ⊎ (behind (entries s n) v c.0 ≡ true) → ⊥
        cases (inl e) = cycle (subst (λ (j : ℕ). reaches s.pairs j t ≡ true) e r)
        cases (inr y) = cycle (reaches-join s.pairs v c.0 t (live-chain s v c.0 (executes-live s v xv) (h.order_is_kept.lists n v c.0 y (opens-live s c.0 n c.2))) r)

-- Where work is done at a node for its first open call, a new Frame doesn't come first.
not_first : (graph : Graph) (s q : Core) → IsLawful graph s → (t n : ℕ) → wants s t n ≡ true → Frames s q t n → KnownAfter q → GetsFrame t (entries s n) (entries q n) → SomeHead s n (IsWorking graph s n) → first_open (entries q n) ≡ Some t → ⊥
not_first graph s q h t n wt f k g w x = framed-order graph s q h t n wt f k w.head w.holds.executing b place
  where
    fh : at is_frame (entries s n) w.head ≡ true
    fh = opens-frame graph s h w.head n (heads-opens graph s h w.head n w.first)

    ne : (t == w.head) ≡ false
    ne = false_from_ne_true _ (λ e. both_ways _ (h.wants_are_free t n wt).not_open (subst (λ (j : ℕ). opens s j n ≡ true) (sym (eqb-true t w.head e)) (heads-opens graph s h w.head n w.first)))

    fq : at is_frame (entries q n) w.head ≡ true
    fq = g.other w.head ne ∙ fh

    b : behind (entries q n) t w.head ≡ true
    b = cases (or_cases _ _ (behind-total (entries q n) t w.head (at-has is_frame (entries q n) t g.framed) (at-has is_frame (entries q n) w.head fq) (λ e. both_ways _ ne (eq-eqb t w.head e))))
      where
        cases : (behind (entries q n) t w.head ≡ true) ⊎ (behind (entries q n) w.head t ≡ true) → behind (entries q n) t w.head ≡ true
        cases (inl y) = y
        cases (inr y) = absurd (both_ways _ (first_open-none (entries q n) t w.head (k.unique n) x y) fq)

    place : (v : ℕ) → opens s v n ≡ true → (v ≡ w.head) ⊎ (behind (entries s n) w.head v ≡ true)
    place v o = cases (cases_Bool (v == w.head))
      where
        fv : at is_frame (entries s n) v ≡ true
        fv = opens-frame graph s h v n o

        total : (v == w.head) ≡ false → (behind (entries s n) v w.head ≡ true) ⊎ (behind (entries s n) w.head v ≡ true) → behind (entries s n) w.head v ≡ true
        total e (inr y) = y
        total e (inl y) = absurd (both_ways _ (first_open-none (entries s n) w.head v (h.one_entry n) (head-first (entries s n) w.head w.first) y) fv)

        cases : ((v == w.head) ≡ true) ⊎ ((v == w.head) ≡ false) → (v ≡ w.head) ⊎ (behind (entries s n) w.head v ≡ true)
        cases (inl e) = inl (eqb-true v w.head e)
        cases (inr e) = inr (total e (or_cases _ _ (behind-total (entries s n) v w.head (at-has is_frame (entries s n) v fv) (at-has is_frame (entries s n) w.head fh) (λ z. both_ways _ e (eq-eqb v w.head z)))))

-- ---- what is settled

framed-before : (graph : Graph) (s q : Core) → IsLawful graph s → (t n0 : ℕ) → wants s t n0 ≡ true → Frames s q t n0 → KnownAfter q → (u m n : ℕ) → HowSettled graph q u m n → HowSettled graph s u m n
framed-before graph s q h t n0 wt f k u m n j = go (f.lists n) j
  where
    working : is_gathered s n m ≡ true → SomeHead s n (IsWorking graph s n)
    working y = h.work_is_kept.gathers n m y

    -- a new first Frame is none: nothing is gathered there, and no edge is missing
    first_new : n ≡ n0 → GetsFrame t (entries s n) (entries q n) → SomeHead s n (IsWorking graph s n) → first_open (entries q n) ≡ Some t → ⊥
    first_new e g w x = not_first graph s q h t n (subst (λ (i : ℕ). wants s t i ≡ true) (sym e) wt) (subst (Frames s q t) (sym e) f) k g w x

    last : GetsFrame t (entries s n) (entries q n) → is_prior q t n m ≡ picks_last s n m
    last g = ap (λ (o : Option Entry). is_in m (nodes_in (picks_of (state_of o)))) (before-last (entries q n) t (k.unique n) g.framed (λ v b. k.opens_frames.behind_dones n t v b g.framed) ∙ g.last)

    there : n ≡ n0 → GetsFrame t (entries s n) (entries q n) → HowSettled graph q u m n → ((t == u) ≡ true) ⊎ ((t == u) ≡ false) → HowSettled graph s u m n
    there e g y (inr ne) = settled-before graph s q u m n (record { done = λ d. g.done u d; head = λ x. g.head u ne x }) (f.calls.changed u) (f.gathered n m) (f.edges n m) y
    there e g (by_gather x y) (inl w) = absurd (first_new e g (working (f.gathered n m y)) (subst (λ (i : ℕ). first_open (entries q n) ≡ Some i) (sym (eqb-true t u w)) (head-first (entries q n) u x)))
    there e g (by_drop p x y) (inl w) =
        let i = eqb-true t u w in
        let p2 = sym (last g) ∙ subst (λ (z : ℕ). is_prior q z n m ≡ true) (sym i) p in
        let found = h.edges_are_kept.missing n m p2 (f.edges n m y) in
        absurd (first_new e g (h.work_is_kept.finds n found.holds) (subst (λ (z : ℕ). first_open (entries q n) ≡ Some z) (sym i) (head-first (entries q n) u x)))
    there e g (by_leaving p d l) (inl w) = absurd (both_ways _ (not_both (entries q n) t g.framed) (subst (λ (z : ℕ). at is_done (entries q n) z ≡ true) (sym (eqb-true t u w)) d))
    there e g (by_due d y i) (inl w) = absurd (both_ways _ (not_both (entries q n) t g.framed) (subst (λ (z : ℕ). at is_done (entries q n) z ≡ true) (sym (eqb-true t u w)) d))

    go : (entries q n ≡ entries s n) ⊎ ((n ≡ n0) × GetsFrame t (entries s n) (entries q n)) → HowSettled graph q u m n → HowSettled graph s u m n
    go (inl e) y = settled-before graph s q u m n (same-picks (entries s n) (entries q n) u e) (f.calls.changed u) (f.gathered n m) (f.edges n m) y
    go (inr e) y = there e.0 e.1 y (cases_Bool (t == u))

settled-back : (graph : Graph) (s q : Core) → IsLawful graph s → (t n0 : ℕ) → wants s t n0 ≡ true → Frames s q t n0 → KnownAfter q → (v m : ℕ) → IsSettled graph q v m → IsSettled graph s v m
settled-back graph s q h t n0 wt f k v m (by_node n j) = by_node n (settled-by graph s v m n (framed-before graph s q h t n0 wt f k v m n (how graph q v m n j)))
settled-back graph s q h t n0 wt f k v m (by_look j) = by_look (f.calls.looked v m j)

-- What a call wants it has not settled.
wanted-open : (graph : Graph) (s : Core) → IsLawful graph s → (t n : ℕ) → wants s t n ≡ true → IsSettled graph s t n → ⊥
wanted-open graph s h t n wt k = go (h.wants_are_covered t n (settled-executes graph s h t n lt k) wt).by
  where
    lt : live s t ≡ true
    lt = wants-live s t n wt

    go : (w : ℕ) × (precedes s w t ≡ true) × (opens s w n ≡ true) → ⊥
    go c = cases (or_cases _ _ (behind-total (entries s n) c.0 t (at-has is_frame (entries s n) c.0 fw) (h.settled_has_entry t n lt k) (λ e. both_ways _ (h.wants_are_free t n wt).not_open (subst (λ (j : ℕ). opens s j n ≡ true) e c.2))))
      where
        fw : at is_frame (entries s n) c.0 ≡ true
        fw = opens-frame graph s h c.0 n c.2

        cases : (behind (entries s n) c.0 t ≡ true) ⊎ (behind (entries s n) t c.0 ≡ true) → ⊥
        cases (inl b) = both_ways _ (h.settled_is_kept.none_before c.0 t n k b) fw
        cases (inr b) = both_ways _ (before-not_after graph s h c.0 t c.1) (h.order_is_kept.lists n t c.0 b (opens-live s c.0 n c.2))

-- The new Frame stands before no settled entry.
enters-behind : (graph : Graph) (s q : Core) → IsLawful graph s → (t n : ℕ) → wants s t n ≡ true → Frames s q t n → KnownAfter q → (v : ℕ) → IsSettled graph s v n → behind (entries q n) t v ≡ true → ⊥
enters-behind graph s q h t n wt f k v settled b = go (cases_Bool (live s v))
  where
    lt : live q t ≡ true
    lt = f.lives t ∙ wants-live s t n wt

    place : live s v ≡ true → (w : ℕ) → opens s w n ≡ true → (w ≡ v) ⊎ (behind (entries s n) v w ≡ true)
    place lv w o = inr (cases (or_cases _ _ (behind-total (entries s n) w v (at-has is_frame (entries s n) w fw) (h.settled_has_entry v n lv settled) (λ e. both_ways _ (h.settled_is_kept.no_frame v n settled) (subst (λ (j : ℕ). at is_frame (entries s n) j ≡ true) e fw)))))
      where
        fw : at is_frame (entries s n) w ≡ true
        fw = opens-frame graph s h w n o

        cases : (behind (entries s n) w v ≡ true) ⊎ (behind (entries s n) v w ≡ true) → behind (entries s n) v w ≡ true
        cases (inl y) = absurd (both_ways _ (h.settled_is_kept.none_before w v n settled y) fw)
        cases (inr y) = y

    go : (live s v ≡ true) ⊎ (live s v ≡ false) → ⊥
    go (inl lv) = framed-order graph s q h t n wt f k v (settled-executes graph s h v n lv settled) b (place lv)
    go (inr e) = both_ways _ (k.ended.prefix n t v b (f.lives v ∙ e)) lt

framed-stays : (graph : Graph) (s q : Core) → IsLawful graph s → (t n0 : ℕ) → wants s t n0 ≡ true → Frames s q t n0 → KnownAfter q → SettledStays graph q
framed-stays graph s q h t n0 wt f k = record {
  kept = record { none_before = λ u v m j b. before u v m b (settled-back graph s q h t n0 wt f k v m j) (f.lists m); no_frame = λ v m j. no_frame v m (settled-back graph s q h t n0 wt f k v m j) (f.lists m) };
  has_entry = λ u m l j. entry u m (h.settled_has_entry u m (sym (f.lives u) ∙ l) (settled-back graph s q h t n0 wt f k u m j)) (f.lists m);
}
  where
    own : (m : ℕ) → m ≡ n0 → IsSettled graph s t m → ⊥
    own m e j = wanted-open graph s h t n0 wt (subst (IsSettled graph s t) e j)

    before : (u v m : ℕ) → behind (entries q m) u v ≡ true → IsSettled graph s v m → (entries q m ≡ entries s m) ⊎ ((m ≡ n0) × GetsFrame t (entries s m) (entries q m)) → at is_frame (entries q m) u ≡ false
    before u v m b j (inl e) = ap (λ (es : List Entry). at is_frame es u) e ∙ h.settled_is_kept.none_before u v m j (subst (λ (es : List Entry). behind es u v ≡ true) e b)
    before u v m b j (inr e) = cases (cases_Bool (t == u)) (cases_Bool (t == v))
      where
        cases : ((t == u) ≡ true) ⊎ ((t == u) ≡ false) → ((t == v) ≡ true) ⊎ ((t == v) ≡ false) → at is_frame (entries q m) u ≡ false
        cases x (inl y) = absurd (own m e.0 (subst (λ (w : ℕ). IsSettled graph s w m) (sym (eqb-true t v y)) j))
        cases (inl x) (inr y) = absurd (enters-behind graph s q h t m (subst (λ (i : ℕ). wants s t i ≡ true) (sym e.0) wt) (subst (Frames s q t) (sym e.0) f) k v j (subst (λ (w : ℕ). behind (entries q m) w v ≡ true) (sym (eqb-true t u x)) b))
        cases (inr x) (inr y) = e.1.other u x ∙ h.settled_is_kept.none_before u v m j (e.1.order u v x b (e.1.entrant v (behind-has (entries q m) u v b).1 y))

    no_frame : (v m : ℕ) → IsSettled graph s v m → (entries q m ≡ entries s m) ⊎ ((m ≡ n0) × GetsFrame t (entries s m) (entries q m)) → at is_frame (entries q m) v ≡ false
    no_frame v m j (inl e) = ap (λ (es : List Entry). at is_frame es v) e ∙ h.settled_is_kept.no_frame v m j
    no_frame v m j (inr e) = cases (cases_Bool (t == v))
      where
        cases : ((t == v) ≡ true) ⊎ ((t == v) ≡ false) → at is_frame (entries q m) v ≡ false
        cases (inl y) = absurd (own m e.0 (subst (λ (w : ℕ). IsSettled graph s w m) (sym (eqb-true t v y)) j))
        cases (inr y) = e.1.other v y ∙ h.settled_is_kept.no_frame v m j

    entry : (u m : ℕ) → has (entries s m) u ≡ true → (entries q m ≡ entries s m) ⊎ ((m ≡ n0) × GetsFrame t (entries s m) (entries q m)) → has (entries q m) u ≡ true
    entry u m l (inl e) = ap (λ (es : List Entry). has es u) e ∙ l
    entry u m l (inr e) = e.1.stays_in u l

-- ---- the step

opened-Frames : (graph : Graph) (s p : Core) (t n : ℕ) → ((m : ℕ) → (entries p m ≡ entries s m) ⊎ ((m ≡ n) × GetsFrame t (entries s m) (entries p m))) → p.calls ≡ s.calls → ((i m : ℕ) → is_gathered p i m ≡ is_gathered s i m) → ((i m : ℕ) → has_node (outs p m) i ≡ has_node (outs s m) i)
    → ((u v : ℕ) → reaches s.pairs u v ≡ true → reaches p.pairs u v ≡ true) → Frames s (open_node graph p t n) t n
opened-Frames graph s p t n lists e g o grows = record {
  lists = lists;
  calls = with_call-calls s p t (opened n (active_outs graph p t n)) (record { version = λ c. refl; changed = λ c. refl; looked = λ c. refl; looks = λ c. refl }) (same-calls s p e);
  lives = λ u. ap (λ (l : ℕ → Bool). l u) (with_call-live p t (opened n (active_outs graph p t n)) (λ c. refl)) ∙ ap (λ (cs : List LiveCall). live (record p { calls = cs }) u) e;
  runs_on = λ u. ap (λ (l : ℕ → Bool). l u) (with_call-executes p t (opened n (active_outs graph p t n)) (record { version = λ c. refl; executing = λ c. refl })) ∙ ap (λ (cs : List LiveCall). executes (record p { calls = cs }) u) e;
  gathered = λ i m k. sym (g i m) ∙ k;
  edges = λ i m k. sym (o i m) ∙ k;
  grows = grows;
}

pub frame-Frames : (graph : Graph) (s : Core) (t n : ℕ) → IsLawful graph s → wants s t n ≡ true → Frames s (frame graph s t n) t n
frame-Frames graph s t n h wt = go (at is_mark (entries s n) t) refl
  where
    raised : at is_mark (entries s n) t ≡ true → (m : ℕ) → (cell (raise s t n) m ≡ cell s m) ⊎ ((m ≡ n) × (cell (raise s t n) m ≡ set_state t Frame (cell s m))) → (entries (raise s t n) m ≡ entries s m) ⊎ ((m ≡ n) × GetsFrame t (entries s m) (entries (raise s t n) m))
    raised e m (inl x) = inl (ap (λ (c : Cell). c.entries) x)
    raised e m (inr x) = inr (x.0, subst (λ (c : Cell). GetsFrame t (entries s m) c.entries) (sym x.1) (raised-GetsFrame t (entries s m) (subst (λ (j : ℕ). at is_mark (entries s j) t ≡ true) (sym x.0) e)))

    entered : has (entries s n) t ≡ false → (m : ℕ) → (cell (enter s t n Frame) m ≡ cell s m) ⊎ ((m ≡ n) × (cell (enter s t n Frame) m ≡ place_entry s t Frame (cell s m))) → (entries (enter s t n Frame) m ≡ entries s m) ⊎ ((m ≡ n) × GetsFrame t (entries s m) (entries (enter s t n Frame) m))
    entered e m (inl x) = inl (ap (λ (c : Cell). c.entries) x)
    entered e m (inr x) = inr (x.0, subst (λ (c : Cell). GetsFrame t (entries s m) c.entries) (sym x.1) (placed-GetsFrame (stops_call s t) (new_entry s t Frame) (entries s m) refl (h.one_entry m) (subst (λ (j : ℕ). has (entries s j) t ≡ false) (sym x.0) e)))

    go : (b : Bool) → at is_mark (entries s n) t ≡ b → Frames s (elim b as (λ _. Core) [ true ↦ open_node graph (raise s t n) t n | false ↦ open_node graph (enter s t n Frame) t n ]) t n
    go true e = opened-Frames graph s (raise s t n) t n (λ m. raised e m (with_cell-cell s n (set_state t Frame) m)) refl
        (λ i m. same-part (λ x. is_some (gathered_of m x.gathered)) s n (set_state t Frame) (λ x. refl) i) (λ i m. same-part (λ x. has_node x.outs i) s n (set_state t Frame) (λ x. refl) m) (λ u v r. r)
    go false e = opened-Frames graph s (enter s t n Frame) t n (λ m. entered (wanted-fresh graph s h t n wt e) m (with_cell-cell s n (place_entry s t Frame) m)) refl
        (λ i m. same-part (λ x. is_some (gathered_of m x.gathered)) s n (place_entry s t Frame) (λ x. refl) i) (λ i m. same-part (λ x. has_node x.outs i) s n (place_entry s t Frame) (λ x. refl) m) (λ u v r. entered-reaches s t n u v (wants-live s t n wt) r)

pub framed-settled : (graph : Graph) (s : Core) (t n : ℕ) → IsLawful graph s → allowed graph s (steps.Frame t n) ≡ true → SettledStays graph (apply graph s (steps.Frame t n))
framed-settled graph s t n h a =
    let wt = frame-wants graph s t n a in
    framed-stays graph s (frame graph s t n) h t n wt (frame-Frames graph s t n h wt) (record {
      order = step-OrderIsKept graph s (steps.Frame t n) h a;
      phases = step-FramingComesLast graph s (steps.Frame t n) h a;
      ended = step-EndedIsPrefix graph s (steps.Frame t n) h a;
      opens_frames = step-FramesAreOpen graph s (steps.Frame t n) h a;
      unique = step-one_entry graph s (steps.Frame t n) h a;
    })
