-- After Skip and Resolve no Frame stands before a settled entry: what the Done settles was settled by what it was worked out of.
use Rattle.std.proofs.Common.{◌≡◌, ℕ, ◌<◌, Bool, true, false, ◌&&◌, ◌||◌, not, ◌==◌, ◌⊎◌, inl, inr, refl, sym, ap, List, [], ◌∷◌, ◌++◌, length, true≢false, ◌∙◌, subst, Option}
use Rattle.std.proofs.lemmas.Bool.{or_cases, or_left, or_right, and_from, eqb-true, eq-eqb, false_from_ne_true, both_ways, cases_Bool, not-true}
use Rattle.std.specs.Prelude.{is_some, take}
use Rattle.std.specs.List.{list_any, list_all}
use Rattle.script_tree.specs.declared.value.Value.{Value}
use Rattle.script_tree.proofs.Truths.{and_left, and_right}
use Rattle.signal_graph.specs.declared.node.Node.{Node}
use Rattle.signal_graph.specs.declared.node.Node.TheVariants.{Source, Signal, Fold, Choose}
use Rattle.signal_graph.specs.Graph.{Graph, is_in, is_source, node_at, inputs_of, selectors_of}
use Rattle.signal_graph.specs.Values.{nodes_in}
use Rattle.node_versions.specs.declared.entry.State.{State}
use Rattle.node_versions.specs.declared.entry.State.TheVariants.{Done}
use Rattle.node_versions.specs.declared.entry.Entry.{Entry}
use Rattle.node_versions.specs.Entries.{OutEdge, has, at, is_frame, is_done, behind, first_open, has_node, with_state, picks_before, picks_at, value_before}
use Rattle.node_versions.proofs.Places.{at-has}
use Rattle.flow_model.specs.declared.step.Step.TheVariants as steps
use Rattle.flow_model.specs.Machine.State.{Core, Cell, call, cell, live, entries, outs, opens, wants, changes, with_call, with_cell}
use Rattle.flow_model.specs.Machine.Words.{heads, at_front, can_work, pressed, touched, deps, prior_picks, gathered_of, is_gathered, is_candidate, is_prior, found_picks, found_candidates, value_now}
use Rattle.flow_model.specs.Machine.Sets.{put}
use Rattle.flow_model.specs.Machine.Changes.{set_state, closed, cleared, finish}
use Rattle.flow_model.specs.Machine.Steps.{allowed, apply, is_change, is_worked_out, is_released}
use Rattle.flow_model.specs.Kept.Runs.{looked_at, by_node}
use Rattle.flow_model.specs.Kept.Lawful.{IsLawful, lists_candidate, picks_last}
use Rattle.flow_model.proofs.OneStep.WhoMayStep.{executes-live, at_front-executes, at_front-heads}
use Rattle.flow_model.proofs.General.Sets.{in-put}
use Rattle.flow_model.proofs.OneStep.SameLengths.{change_at-length}
use Rattle.flow_model.proofs.OrderStays.OpenNodesHaveFrames.{cell-there, entry-there}
use Rattle.flow_model.proofs.OrderStays.NoFrameBeforeDones.{head-first}
use Rattle.flow_model.proofs.Wants.FramedWith.{heads-opens, opens-frame, out-node}
use Rattle.flow_model.proofs.Wants.EarlierNodes.{prior-listed}
use Rattle.flow_model.proofs.OneList.Entering.{with_cell-cell}
use Rattle.flow_model.proofs.OneList.CallsAndCells.{with_call-field, with_call-keeps, with_call-live}
use Rattle.flow_model.proofs.FramesSpread.AfterDiscover.{head-prior}
use Rattle.flow_model.proofs.FramesSpread.AfterDones.{IsFinishing, skip-finishing, resolve-finishing, skip-untouched, resolve-worked, worked-gathered, front-no_open, heads-same}
use Rattle.flow_model.proofs.General.AnyAndAll.{any-in, all-in}
use Rattle.flow_model.proofs.OneList.PicksBefore.{KeepsDone, KeepsPicks, same-picks, own-before, own-now, finished-done, finished-next}
use Rattle.flow_model.proofs.Settled.WhatSettles.{HowSettled, by_gather, by_leaving, by_drop, by_due, settled-by, settled-before, in-picks, KeepsPlaces, same-places, finished-places, by-nodes, SettledStays, settled-stays}
use Rattle.flow_model.proofs.Lengths.SameWork.{same-part}
use Rattle.flow_model.proofs.Edges.PicksFitSelectors.{worked-found}

-- ---- the nodes that the call has changed

any-more_in : (f g : ℕ → Bool) (xs : List ℕ) → ((m : ℕ) → is_in m xs ≡ true → f m ≡ true → g m ≡ true) → list_any f xs ≡ true → list_any g xs ≡ true
any-more_in f g [] h k = k
any-more_in f g (x ∷ xs) h k = go (or_cases _ _ k) (any-more_in f g xs (λ m i. h m (or_right _ _ i)))
  where
    go : (f x ≡ true) ⊎ (list_any f xs ≡ true) → (list_any f xs ≡ true → list_any g xs ≡ true) → list_any g (x ∷ xs) ≡ true
    go (inl a) further = or_left _ _ (h x (or_left _ _ (eq-eqb x x refl)) a)
    go (inr a) further = or_right _ _ (further a)

-- Where the node that a call comes to have changed is none that another rests on, that one is no more touched than before.
touched-back : (graph : Graph) (s q : Core) (u n n0 : ℕ) → picks_before (entries q n) u ≡ picks_before (entries s n) u → ((m : ℕ) → changes q u m ≡ true → (changes s u m ≡ true) ⊎ (m ≡ n0))
    → (is_in n0 (deps graph s u n) ≡ true → ⊥) → touched graph q u n ≡ true → touched graph s u n ≡ true
touched-back graph s q u n n0 e c apart k = and_from _ _ (and_left _ _ k)
    (any-more_in (changes q u) (changes s u) (deps graph s u n) (λ m i x. go m i (c m x)) (subst (λ (ps : List (Option ℕ)). list_any (changes q u) (inputs_of (node_at graph n) ++ nodes_in ps) ≡ true) e (and_right _ _ k)))
  where
    go : (m : ℕ) → is_in m (deps graph s u n) ≡ true → (changes s u m ≡ true) ⊎ (m ≡ n0) → changes s u m ≡ true
    go m i (inl x) = x
    go m i (inr x) = absurd (apart (subst (λ (j : ℕ). is_in j (deps graph s u n) ≡ true) x i))

-- ---- the Done

-- What the first open call's Done at a node takes from the state before: of the picks that it leaves the edges are gone, and of
-- those that it keeps they stand; where it was due, all that it takes is gathered.
pub record TakesIn (graph : Graph) (s : Core) (t n : ℕ) (ps : List (Option ℕ)) : Type 0 where
  pub front : at_front graph s t n ≡ true
  pub left : (m : ℕ) → is_prior s t n m ≡ true → is_in m (nodes_in ps) ≡ false → has_node (outs s m) n ≡ false
  pub kept : (m : ℕ) → is_in m (nodes_in ps) ≡ true → has_node (outs s m) n ≡ true
  pub gathered : (m : ℕ) → touched graph s t n ≡ true → (is_in m (inputs_of (node_at graph n)) || is_in m (nodes_in ps)) ≡ true → is_gathered s n m ≡ true

-- What is read of the state after the Done.
pub record Finishes (s q : Core) (t n : ℕ) (x : State) : Type 0 where
  pub lists : (m : ℕ) → (entries q m ≡ entries s m) ⊎ ((m ≡ n) × (entries q m ≡ with_state t x (entries s m)))
  pub gathered : (i m : ℕ) → is_gathered q i m ≡ true → is_gathered s i m ≡ true
  pub edges : (m : ℕ) → outs q m ≡ outs s m
  pub changed : (u m : ℕ) → changes q u m ≡ true → (changes s u m ≡ true) ⊎ ((u ≡ t) × (m ≡ n))
  pub looked : (u m : ℕ) → looked_at q u m ≡ true → looked_at s u m ≡ true
  pub lives : (u : ℕ) → live q u ≡ true → live s u ≡ true

finished-settled : (graph : Graph) (s q : Core) → IsLawful graph s → (t n0 : ℕ) (v : Value) (c : Bool) (ps : List (Option ℕ)) → TakesIn graph s t n0 ps → Finishes s q t n0 (Done v c ps) → ((m : ℕ) → is_gathered q n0 m ≡ false) → SettledStays graph q
finished-settled graph s q h t n0 v c ps fin f none_there = settled-stays graph s q h (by-nodes graph s q (λ u m n k. inl (by_node n (settled-by graph s u m n (before u m n (f.lists n) k)))) (λ u m k. inl (f.looked u m k))) (λ m. places m (f.lists m)) f.lives
  where
    places : (m : ℕ) → (entries q m ≡ entries s m) ⊎ ((m ≡ n0) × (entries q m ≡ with_state t (Done v c ps) (entries s m))) → KeepsPlaces (live s) (entries s m) (entries q m)
    places m (inl e) = same-places (live s) (entries s m) (entries q m) e
    places m (inr e) = subst (KeepsPlaces (live s) (entries s m)) (sym e.1) (finished-places (live s) t (Done v c ps) (entries s m) refl)

    hd : heads s t n0 ≡ true
    hd = at_front-heads graph s t n0 fin.front

    frame : at is_frame (entries s n0) t ≡ true
    frame = opens-frame graph s h t n0 (heads-opens graph s h t n0 hd)

    ht : has (entries s n0) t ≡ true
    ht = at-has is_frame (entries s n0) t frame

    no_done : (x : ℕ) → behind (entries s n0) t x ≡ true → at is_done (entries s n0) x ≡ false
    no_done x b = h.frames_are_open.behind_dones n0 t x b frame

    -- the node is none that a finished one rests on
    done_apart : (u n : ℕ) → u ≡ t → at is_done (entries s n) u ≡ true → is_source (node_at graph n) ≡ false → is_in n0 (deps graph s u n) ≡ true → ⊥
    done_apart u n e d src i = both_ways _ (h.dones_are_right.other u n (subst (λ (w : ℕ). live s w ≡ true) (sym e) (executes-live s t (at_front-executes graph s t n0 fin.front))) d src).no_open
        (any-in (λ m. opens s u m || wants s u m) (deps graph s u n) n0 i (or_left _ _ (subst (λ (w : ℕ). opens s w n0 ≡ true) (sym e) (heads-opens graph s h t n0 hd))))

    still_due : (u n : ℕ) → at is_done (entries s n) u ≡ true → picks_before (entries q n) u ≡ picks_before (entries s n) u → touched graph q u n ≡ true → touched graph s u n ≡ true
    still_due u n d e k = go (cases_Bool (u == t))
      where
        go : ((u == t) ≡ true) ⊎ ((u == t) ≡ false) → touched graph s u n ≡ true
        go (inl x) = touched-back graph s q u n n0 e (λ m y. either m (f.changed u m y)) (λ i. done_apart u n (eqb-true u t x) d (not-true _ (and_left _ _ k)) i) k
          where
            either : (m : ℕ) → (changes s u m ≡ true) ⊎ ((u ≡ t) × (m ≡ n0)) → (changes s u m ≡ true) ⊎ (m ≡ n0)
            either m (inl y) = inl y
            either m (inr y) = inr y.1
        go (inr x) = and_from _ _ (and_left _ _ k) (any-more_in (changes q u) (changes s u) (deps graph s u n) (λ m _ y. mine m (f.changed u m y)) (subst (λ (ps : List (Option ℕ)). list_any (changes q u) (inputs_of (node_at graph n) ++ nodes_in ps) ≡ true) e (and_right _ _ k)))
          where
            mine : (m : ℕ) → (changes s u m ≡ true) ⊎ ((u ≡ t) × (m ≡ n0)) → changes s u m ≡ true
            mine m (inl y) = y
            mine m (inr y) = absurd (both_ways _ x (eq-eqb u t y.0))

    edge_before : (n m : ℕ) → has_node (outs q m) n ≡ false → has_node (outs s m) n ≡ false
    edge_before n m e = sym (ap (λ (os : List OutEdge). has_node os n) (f.edges m)) ∙ e

    done_settles : (u m n : ℕ) → KeepsDone (entries s n) (entries q n) u → touched graph q u n ≡ true → (is_in m (inputs_of (node_at graph n)) || is_in m (nodes_in (picks_at (entries q n) u))) ≡ true → HowSettled graph s u m n
    done_settles u m n z k i = by_due z.done (still_due u n z.done z.prior k) (subst (λ (ps : List (Option ℕ)). (is_in m (inputs_of (node_at graph n)) || is_in m (nodes_in ps)) ≡ true) z.now i)

    -- the node of the Done
    there : (u m : ℕ) → entries q n0 ≡ with_state t (Done v c ps) (entries s n0) → HowSettled graph q u m n0 → HowSettled graph s u m n0
    there u m e (by_gather x y) = absurd (both_ways _ (none_there m) y)
    there u m e (by_leaving p d l) = go (cases_Bool (u == t))
      where
        go : ((u == t) ≡ true) ⊎ ((u == t) ≡ false) → HowSettled graph s u m n0
        go (inl x) =
            let w = eqb-true u t x in
            let p2 : is_prior s t n0 m ≡ true = in-picks _ _ m true (own-before t (Done v c ps) (entries s n0)) (subst (λ (j : ℕ). is_in m (nodes_in (picks_before (with_state t (Done v c ps) (entries s n0)) j)) ≡ true) w (subst (λ (es : List Entry). is_in m (nodes_in (picks_before es u)) ≡ true) e p)) in
            let l2 : is_in m (nodes_in ps) ≡ false = in-picks _ _ m false (own-now t v c ps (entries s n0) ht) (subst (λ (j : ℕ). is_in m (nodes_in (picks_at (with_state t (Done v c ps) (entries s n0)) j)) ≡ false) w (subst (λ (es : List Entry). is_in m (nodes_in (picks_at es u)) ≡ false) e l)) in
            subst (λ (j : ℕ). HowSettled graph s j m n0) (sym w) (by_drop p2 hd (fin.left m p2 l2))
        go (inr x) =
            let z = finished-done t v c ps (entries s n0) u x no_done (subst (λ (es : List Entry). at is_done es u ≡ true) e d) in
            by_leaving (in-picks _ _ m true z.prior (subst (λ (es : List Entry). is_in m (nodes_in (picks_before es u)) ≡ true) e p)) z.done (in-picks _ _ m false z.now (subst (λ (es : List Entry). is_in m (nodes_in (picks_at es u)) ≡ false) e l))
    there u m e (by_drop p x y) =
        let first = ap first_open (sym e) ∙ head-first (entries q n0) u x in
        let ps_are = finished-next t v c ps (entries s n0) u (h.one_entry n0) ht no_done (head-first (entries s n0) t hd) (λ a b k g. h.frames_are_open.behind_dones n0 a b k g) first in
        absurd (both_ways _ (edge_before n0 m y) (fin.kept m (in-picks _ _ m true (ap (λ (es : List Entry). picks_before es u) e ∙ ps_are) p)))
    there u m e (by_due d k i) = go (cases_Bool (u == t))
      where
        go : ((u == t) ≡ true) ⊎ ((u == t) ≡ false) → HowSettled graph s u m n0
        go (inr x) =
            let z = finished-done t v c ps (entries s n0) u x no_done (subst (λ (es : List Entry). at is_done es u ≡ true) e d) in
            done_settles u m n0 (subst (λ (es : List Entry). KeepsDone (entries s n0) es u) (sym e) z) k i
        go (inl x) =
            let w = eqb-true u t x in
            let k2 : touched graph q t n0 ≡ true = subst (λ (j : ℕ). touched graph q j n0 ≡ true) w k in
            let prior : picks_before (entries q n0) t ≡ picks_before (entries s n0) t = ap (λ (es : List Entry). picks_before es t) e ∙ own-before t (Done v c ps) (entries s n0) in
            let k3 = touched-back graph s q t n0 n0 prior (λ j y. either j (f.changed t j y)) own_apart k2 in
            let i2 : (is_in m (inputs_of (node_at graph n0)) || is_in m (nodes_in ps)) ≡ true = subst (λ (xs : List (Option ℕ)). (is_in m (inputs_of (node_at graph n0)) || is_in m (nodes_in xs)) ≡ true) (ap (λ (es : List Entry). picks_at es t) e ∙ own-now t v c ps (entries s n0) ht)
            (subst (λ (j : ℕ). (is_in m (inputs_of (node_at graph n0)) || is_in m (nodes_in (picks_at (entries q n0) j))) ≡ true) w i) in
            subst (λ (j : ℕ). HowSettled graph s j m n0) (sym w) (by_gather hd (fin.gathered m k3 i2))
          where
            either : (j : ℕ) → (changes s t j ≡ true) ⊎ ((t ≡ t) × (j ≡ n0)) → (changes s t j ≡ true) ⊎ (j ≡ n0)
            either j (inl y) = inl y
            either j (inr y) = inr y.1

            own_apart : is_in n0 (deps graph s t n0) ≡ true → ⊥
            own_apart i = both_ways _ (front-no_open graph s t n0 fin.front) (any-in (opens s t) (deps graph s t n0) n0 i (heads-opens graph s h t n0 hd))

    -- any other node
    elsewhere : (u m n : ℕ) → KeepsPicks (entries s n) (entries q n) u → HowSettled graph q u m n → HowSettled graph s u m n
    elsewhere u m n k (by_due d y i) = done_settles u m n (k.done d) y i
    elsewhere u m n k (by_gather x y) = settled-before graph s (record q { calls = s.calls }) u m n k (λ j z. z) (f.gathered n m) (edge_before n m) (by_gather x y)
    elsewhere u m n k (by_leaving p d l) = settled-before graph s (record q { calls = s.calls }) u m n k (λ j z. z) (f.gathered n m) (edge_before n m) (by_leaving p d l)
    elsewhere u m n k (by_drop p x y) = settled-before graph s (record q { calls = s.calls }) u m n k (λ j z. z) (f.gathered n m) (edge_before n m) (by_drop p x y)

    before : (u m n : ℕ) → (entries q n ≡ entries s n) ⊎ ((n ≡ n0) × (entries q n ≡ with_state t (Done v c ps) (entries s n))) → HowSettled graph q u m n → HowSettled graph s u m n
    before u m n (inl e) k = elsewhere u m n (same-picks (entries s n) (entries q n) u e) k
    before u m n (inr e) k = subst (HowSettled graph s u m) (sym e.0) (there u m (subst (λ (j : ℕ). entries q j ≡ with_state t (Done v c ps) (entries s j)) e.0 e.1) (subst (HowSettled graph q u m) e.0 k))

-- ---- the state after it

added : (b e w : Bool) → (b ≡ (e || w)) → b ≡ true → (w ≡ true) ⊎ (e ≡ true)
added b true w h k = inr refl
added b false w h k = inl (sym h ∙ k)

pub finish-Finishes : (s : Core) (t n : ℕ) (v : Value) (c : Bool) (ps : List (Option ℕ)) → live s t ≡ true → Finishes s (finish s t n v c ps) t n (Done v c ps)
finish-Finishes s t n v c ps lt = record {
  lists = λ m. lists m (with_cell-cell s n (set_state t (Done v c ps)) m);
  gathered = λ i m k. sym (same-part (λ x. is_some (gathered_of m x.gathered)) s n (set_state t (Done v c ps)) (λ x. refl) i) ∙ k;
  edges = λ m. same-part (λ x. x.outs) s n (set_state t (Done v c ps)) (λ x. refl) m;
  changed = λ u m k. changed u m k (cases_Bool (u == t)) (with_call-field (λ x. is_in m x.changed) p t (closed n c) (λ x. refl) u lt);
  looked = λ u m k. sym (with_call-keeps (λ x. is_in m (take (length x.looked) x.looks)) p t (closed n c) (λ x. refl) (λ x. refl) u) ∙ k;
  lives = λ u k. ap (λ (l : ℕ → Bool). l u) (sym (with_call-live p t (closed n c) (λ x. refl))) ∙ k;
}
  where
    p : Core
    p = with_cell s n (set_state t (Done v c ps))

    lists : (m : ℕ) → (cell p m ≡ cell s m) ⊎ ((m ≡ n) × (cell p m ≡ set_state t (Done v c ps) (cell s m))) → (entries p m ≡ entries s m) ⊎ ((m ≡ n) × (entries p m ≡ with_state t (Done v c ps) (entries s m)))
    lists m (inl e) = inl (ap (λ (x : Cell). x.entries) e)
    lists m (inr e) = inr (e.0, ap (λ (x : Cell). x.entries) e.1)

    more : (m : ℕ) (b : Bool) → is_in m (elim b as (λ _. List ℕ) [ true ↦ put n (call s t).changed | false ↦ (call s t).changed ]) ≡ true → (changes s t m ≡ true) ⊎ ((m == n) ≡ true)
    more m false k = inl k
    more m true k = added _ (m == n) (changes s t m) (in-put m n (call s t).changed) k

    changed : (u m : ℕ) → changes (with_call p t (closed n c)) u m ≡ true → ((u == t) ≡ true) ⊎ ((u == t) ≡ false)
        → changes (with_call p t (closed n c)) u m ≡ elim (u == t) as (λ _. Bool) [ true ↦ is_in m (closed n c (call s t)).changed | false ↦ changes s u m ] → (changes s u m ≡ true) ⊎ ((u ≡ t) × (m ≡ n))
    changed u m k (inr x) e = inl (sym (rw x at e) ∙ k)
    changed u m k (inl x) e = go (more m c (sym (rw x at e) ∙ k))
      where
        go : (changes s t m ≡ true) ⊎ ((m == n) ≡ true) → (changes s u m ≡ true) ⊎ ((u ≡ t) × (m ≡ n))
        go (inl y) = inl (subst (λ (w : ℕ). changes s w m ≡ true) (sym (eqb-true u t x)) y)
        go (inr y) = inr (eqb-true u t x, eqb-true m n y)

pub clear-Finishes : (s q : Core) (t n : ℕ) (x : State) → Finishes s q t n x → Finishes s (with_cell q n cleared) t n x
clear-Finishes s q t n x f = record {
  lists = λ m. lists m (f.lists m);
  gathered = λ i m k. f.gathered i m (fewer i m k (with_cell-cell q n cleared i));
  edges = λ m. same-part (λ y. y.outs) q n cleared (λ y. refl) m ∙ f.edges m;
  changed = f.changed;
  looked = f.looked;
  lives = f.lives;
}
  where
    lists : (m : ℕ) → (entries q m ≡ entries s m) ⊎ ((m ≡ n) × (entries q m ≡ with_state t x (entries s m))) → (entries (with_cell q n cleared) m ≡ entries s m) ⊎ ((m ≡ n) × (entries (with_cell q n cleared) m ≡ with_state t x (entries s m)))
    lists m (inl e) = inl (same-part (λ y. y.entries) q n cleared (λ y. refl) m ∙ e)
    lists m (inr e) = inr (e.0, same-part (λ y. y.entries) q n cleared (λ y. refl) m ∙ e.1)

    fewer : (i m : ℕ) → is_gathered (with_cell q n cleared) i m ≡ true → (cell (with_cell q n cleared) i ≡ cell q i) ⊎ ((i ≡ n) × (cell (with_cell q n cleared) i ≡ cleared (cell q i))) → is_gathered q i m ≡ true
    fewer i m k (inl e) = sym (ap (λ (y : Cell). is_some (gathered_of m y.gathered)) e) ∙ k
    fewer i m k (inr e) = absurd (true≢false (sym k ∙ ap (λ (y : Cell). is_some (gathered_of m y.gathered)) e.1))

-- ---- Skip

skip-takes : (graph : Graph) (s : Core) → IsLawful graph s → (t n : ℕ) → allowed graph s (steps.Skip t n) ≡ true → TakesIn graph s t n (picks_before (entries s n) t)
skip-takes graph s h t n a =
    let fin = skip-finishing graph s h t n a in record {
      front = fin.front;
      left = λ m p l. absurd (both_ways _ l p);
      kept = λ m i. fin.goes_on m i (sym (head-prior graph s h t n m (at_front-heads graph s t n fin.front)) ∙ i);
      gathered = λ m k i. absurd (both_ways _ (skip-untouched graph s t n a) k);
    }

pub skipped-settled : (graph : Graph) (s : Core) (t n : ℕ) → IsLawful graph s → allowed graph s (steps.Skip t n) ≡ true → SettledStays graph (apply graph s (steps.Skip t n))
skipped-settled graph s t n h a = finished-settled graph s q h t n (value_before (entries s n) t) false (picks_before (entries s n) t) takes f (λ m. false_from_ne_true _ (λ k. none_there m (f.gathered n m k)))
  where
    q : Core
    q = finish s t n (value_before (entries s n) t) false (picks_before (entries s n) t)

    takes : TakesIn graph s t n (picks_before (entries s n) t)
    takes = skip-takes graph s h t n a

    f : Finishes s q t n (Done (value_before (entries s n) t) false (picks_before (entries s n) t))
    f = finish-Finishes s t n (value_before (entries s n) t) false (picks_before (entries s n) t) (executes-live s t (at_front-executes graph s t n takes.front))

    -- what is gathered shows that the first open call has changed what the node rests on
    none_there : (m : ℕ) → is_gathered s n m ≡ true → ⊥
    none_there m k =
        let w = h.work_is_kept.gathers n m k in
        both_ways _ (skip-untouched graph s t n a) (subst (λ (v : ℕ). touched graph s v n ≡ true) (heads-same s t w.head n (at_front-heads graph s t n takes.front) w.first) w.holds.changed)

-- ---- Resolve

pub source-lists : (node : Node) (m : ℕ) → is_source node ≡ true → lists_candidate m (selectors_of node) ≡ true → ⊥
source-lists (Source v) m s k = true≢false (sym k)
source-lists (Signal script inputs) m s k = true≢false (sym s)
source-lists (Fold v script inputs) m s k = true≢false (sym s)
source-lists (Choose selectors body inputs) m s k = true≢false (sym s)

pub worked-released : (graph : Graph) (s : Core) (t n : ℕ) → is_worked_out graph s t n ≡ true → list_all (is_released s n) (prior_picks s t n) ≡ true
worked-released graph s t n w = and_right _ _ (and_left _ _ w)

resolve-takes : (graph : Graph) (s : Core) → IsLawful graph s → (t n : ℕ) → allowed graph s (steps.Resolve t n) ≡ true → TakesIn graph s t n (found_picks s n)
resolve-takes graph s h t n a = record {
  front = fin.front;
  left = λ m p l. gone m l (all-in (is_released s n) (prior_picks s t n) m (worked-released graph s t n (worked m p)) p);
  kept = λ m i. stands m i (cases_Bool (picks_last s n m));
  gathered = λ m k i. all_there m (resolve-worked graph s t n a k) (or_cases _ _ i);
}
  where
    fin : IsFinishing graph s t n (found_picks s n)
    fin = resolve-finishing graph s h t n a

    -- a node with prior picks is no source
    worked : (m : ℕ) → is_prior s t n m ≡ true → is_worked_out graph s t n ≡ true
    worked m p = go (or_cases (is_source (node_at graph n)) (touched graph s t n && is_worked_out graph s t n) (and_right (can_work graph s t n && not (pressed s t n)) (is_source (node_at graph n) || (touched graph s t n && is_worked_out graph s t n)) a))
      where
        go : (is_source (node_at graph n) ≡ true) ⊎ ((touched graph s t n && is_worked_out graph s t n) ≡ true) → is_worked_out graph s t n ≡ true
        go (inl x) = absurd (source-lists (node_at graph n) m x (prior-listed graph s h t n m p))
        go (inr x) = and_right _ _ x

    gone : (m : ℕ) → is_candidate s n m ≡ false → (is_candidate s n m || not (has_node (outs s m) n)) ≡ true → has_node (outs s m) n ≡ false
    gone m l k = go (or_cases _ _ k)
      where
        go : (is_candidate s n m ≡ true) ⊎ (not (has_node (outs s m) n) ≡ true) → has_node (outs s m) n ≡ false
        go (inl x) = absurd (both_ways _ l x)
        go (inr x) = not-true _ x

    stands : (m : ℕ) → is_in m (nodes_in (found_picks s n)) ≡ true → (picks_last s n m ≡ true) ⊎ (picks_last s n m ≡ false) → has_node (outs s m) n ≡ true
    stands m i (inl p) = fin.goes_on m i p
    stands m i (inr p) = out-node (outs s m) n t (fin.begins m i p)

    all_there : (m : ℕ) → is_worked_out graph s t n ≡ true → (is_in m (inputs_of (node_at graph n)) ≡ true) ⊎ (is_in m (nodes_in (found_picks s n)) ≡ true) → is_gathered s n m ≡ true
    all_there m w (inl i) = all-in (is_gathered s n) (inputs_of (node_at graph n)) m (h.work_is_kept.finds_last n (worked-found graph s t n w)) i
    all_there m w (inr i) = all-in (is_gathered s n) (found_candidates s n) m (worked-gathered graph s t n w) i

pub resolved-settled : (graph : Graph) (s : Core) (t n : ℕ) → IsLawful graph s → allowed graph s (steps.Resolve t n) ≡ true → SettledStays graph (apply graph s (steps.Resolve t n))
resolved-settled graph s t n h a = finished-settled graph s (with_cell q n cleared) h t n (value_now graph s t n) (is_change graph s t n) (found_picks s n) takes (clear-Finishes s q t n _ f) none_there
  where
    q : Core
    q = finish s t n (value_now graph s t n) (is_change graph s t n) (found_picks s n)

    takes : TakesIn graph s t n (found_picks s n)
    takes = resolve-takes graph s h t n a

    f : Finishes s q t n (Done (value_now graph s t n) (is_change graph s t n) (found_picks s n))
    f = finish-Finishes s t n (value_now graph s t n) (is_change graph s t n) (found_picks s n) (executes-live s t (at_front-executes graph s t n takes.front))

    there : n < length q.cells
    there = let e = change_at-length n (set_state t (Done (value_now graph s t n) (is_change graph s t n) (found_picks s n))) s.cells in
        let l = entry-there s n t (at-has is_frame (entries s n) t (opens-frame graph s h t n (heads-opens graph s h t n (at_front-heads graph s t n takes.front)))) in
        subst (λ (k : ℕ). n < k) (sym e) l

    none_there : (m : ℕ) → is_gathered (with_cell q n cleared) n m ≡ false
    none_there m = ap (λ (y : Cell). is_some (gathered_of m y.gathered)) (cell-there q n cleared there)
