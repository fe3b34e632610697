-- After the steps that change no Frame, no Frame stands before a settled entry, which is none and is there.
use Rattle.std.proofs.Common.{◌≡◌, ℕ, zero, suc, Bool, true, false, ◌==◌, ◌⊎◌, inl, inr, refl, sym, ap, arith, List, [], ◌∷◌, ◌++◌, length, true≢false, ◌∙◌, subst, Option, Some, None}
use Rattle.std.proofs.lemmas.Bool.{or_cases, or_left, or_right, eqb-true, cases_Bool}
use Rattle.std.specs.Prelude.{is_some, take, slice_get, map}
use Rattle.script_tree.specs.declared.value.Value.{Value}
use Rattle.script_tree.proofs.Truths.{and_left, and_right}
use Rattle.signal_graph.specs.Graph.{Graph, is_in}
use Rattle.node_versions.specs.declared.entry.State.TheVariants.{Mark}
use Rattle.node_versions.specs.declared.entry.Entry.{Entry}
use Rattle.node_versions.specs.Entries.{OutEdge, has, has_node, with_out, value_at}
use Rattle.flow_model.specs.declared.step.Step.TheVariants as steps
use Rattle.flow_model.specs.Machine.State.{Core, LiveCall, Cell, call, call_of, call_or, cell, live, entries, outs, changes, with_call, with_cell}
use Rattle.flow_model.specs.Machine.Words.{heads, gathered_of, is_gathered, found_now, body_now, next_look}
use Rattle.flow_model.specs.Machine.Changes.{stops_call, new_entry, place_entry, enter, ensure_mark, tell_call, add_edge}
use Rattle.flow_model.specs.Machine.Steps.{allowed, apply, started, counted, keep_found, keep_body, gather, with_look, look_value, served_look}
use Rattle.flow_model.specs.Kept.Runs.{looked_at, IsSettled, by_node}
use Rattle.flow_model.specs.Kept.Lawful.{IsLawful}
use Rattle.flow_model.proofs.OneStep.WhoMayStep.{discover-due, due-can_work, can_work-at_front, at_front-heads, at_front-executes, executes-live, mark-executes, mark-no_entry, idle-executes, look-idle}
use Rattle.flow_model.proofs.OneList.Entering.{with_cell-cell}
use Rattle.flow_model.proofs.OneList.CallsAndCells.{with_call-field, with_call-keeps, with_call-live, map_call-keeps, map_call-live}
use Rattle.flow_model.proofs.OneStep.SameCallers.{ensured}
use Rattle.flow_model.proofs.Wants.WantsAreFree.{ensured-live}
use Rattle.flow_model.proofs.FramesSpread.AfterDones.{heads-same}
use Rattle.flow_model.proofs.OneList.PicksBefore.{KeepsPicks, same-picks, marked-picks}
use Rattle.flow_model.proofs.Settled.WhatSettles.{HowSettled, settled-by, settled-or, settled-before, KeepsPlaces, same-places, marked-places, IsServed, served-is, by-nodes, SettledStays, settled-stays}
use Rattle.flow_model.proofs.Lengths.SameWork.{same-part}

-- ---- what is read of calls

-- No call changes or looks at more, and none comes to life.
pub record KeepsCalls (s q : Core) : Type 0 where
  pub changed : (u m : ℕ) → changes q u m ≡ true → changes s u m ≡ true
  pub looked : (u m : ℕ) → looked_at q u m ≡ true → looked_at s u m ≡ true
  pub lives : (u : ℕ) → live q u ≡ true → live s u ≡ true

pub same-calls : (s q : Core) → q.calls ≡ s.calls → KeepsCalls s q
same-calls s q e = record {
  changed = λ u m k. subst (λ (cs : List LiveCall). is_in m (call_or (call_of cs u)).changed ≡ true) e k;
  looked = λ u m k. subst (λ (cs : List LiveCall). is_in m (take (length (call_or (call_of cs u)).looked) (call_or (call_of cs u)).looks) ≡ true) e k;
  lives = λ u k. subst (λ (cs : List LiveCall). is_some (call_of cs u) ≡ true) e k;
}

-- The change of a call leaves alone what it has changed and looked at.
pub record KeepsReads (f : LiveCall → LiveCall) : Type 0 where
  pub version : (c : LiveCall) → (f c).version ≡ c.version
  pub changed : (c : LiveCall) → (f c).changed ≡ c.changed
  pub looked : (c : LiveCall) → (f c).looked ≡ c.looked
  pub looks : (c : LiveCall) → (f c).looks ≡ c.looks

looks-same : (c d : LiveCall) (m : ℕ) → d.looked ≡ c.looked → d.looks ≡ c.looks → is_in m (take (length d.looked) d.looks) ≡ is_in m (take (length c.looked) c.looks)
looks-same c d m e f = ap (λ (vs : List Value). is_in m (take (length vs) d.looks)) e ∙ ap (λ (xs : List ℕ). is_in m (take (length c.looked) xs)) f

pub with_call-calls : (s q : Core) (t : ℕ) (f : LiveCall → LiveCall) → KeepsReads f → KeepsCalls s q → KeepsCalls s (with_call q t f)
with_call-calls s q t f k c = record {
  changed = λ u m x. c.changed u m (sym (with_call-keeps (λ y. is_in m y.changed) q t f k.version (λ y. ap (is_in m) (k.changed y)) u) ∙ x);
  looked = λ u m x. c.looked u m (sym (with_call-keeps (λ y. is_in m (take (length y.looked) y.looks)) q t f k.version (λ y. looks-same y (f y) m (k.looked y) (k.looks y)) u) ∙ x);
  lives = λ u x. c.lives u (ap (λ (l : ℕ → Bool). l u) (sym (with_call-live q t f k.version)) ∙ x);
}

map_call-calls : (s q : Core) (f : LiveCall → LiveCall) → KeepsReads f → KeepsCalls s q → KeepsCalls s (record q { calls = map f q.calls })
map_call-calls s q f k c = record {
  changed = λ u m x. c.changed u m (sym (map_call-keeps (λ y. is_in m y.changed) q f k.version (λ y. ap (is_in m) (k.changed y)) u) ∙ x);
  looked = λ u m x. c.looked u m (sym (map_call-keeps (λ y. is_in m (take (length y.looked) y.looks)) q f k.version (λ y. looks-same y (f y) m (k.looked y) (k.looks y)) u) ∙ x);
  lives = λ u x. c.lives u (ap (λ (l : ℕ → Bool). l u) (sym (map_call-live q f k.version)) ∙ x);
}

pub ensured-calls : (s : Core) (t c : ℕ) → KeepsCalls s (ensure_mark s t c)
ensured-calls s t c = record {
  changed = λ u m k. sym (ensured (λ x. is_in m x.changed) s t c u) ∙ k;
  looked = λ u m k. sym (ensured (λ x. is_in m (take (length x.looked) x.looks)) s t c u) ∙ k;
  lives = λ u k. sym (ensured-live s t c u) ∙ k;
}

-- ---- steps that settle nothing new

plain-settled : (graph : Graph) (s q : Core) → IsLawful graph s → KeepsCalls s q → ((u n : ℕ) → KeepsPicks (entries s n) (entries q n) u) → ((m : ℕ) → KeepsPlaces (live s) (entries s m) (entries q m))
    → ((n m : ℕ) → is_gathered q n m ≡ true → is_gathered s n m ≡ true) → ((n m : ℕ) → has_node (outs q m) n ≡ false → has_node (outs s m) n ≡ false) → SettledStays graph q
plain-settled graph s q h c picks places g e = settled-stays graph s q h
    (by-nodes graph s q (λ u m n k. inl (by_node n (settled-by graph s u m n (settled-before graph s q u m n (picks u n) (c.changed u) (g n m) (e n m) k)))) (λ u m k. inl (c.looked u m k))) places c.lives

-- the same cells
pub same_cells-settled : (graph : Graph) (s q : Core) → IsLawful graph s → KeepsCalls s q → q.cells ≡ s.cells → SettledStays graph q
same_cells-settled graph s q h c e = plain-settled graph s q h c
    (λ u n. same-picks (entries s n) (entries q n) u (same (λ x. x.entries) n)) (λ m. same-places (live s) (entries s m) (entries q m) (same (λ x. x.entries) m))
    (λ n m k. sym (same (λ x. is_some (gathered_of m x.gathered)) n) ∙ k) (λ n m k. sym (same (λ x. has_node x.outs n) m) ∙ k)
  where
    same : {A : Type 0} (read : Cell → A) (n : ℕ) → read (cell q n) ≡ read (cell s n)
    same {A} read n = ap (λ (cs : List Cell). read (cell (record q { cells = cs }) n)) e

pub started-settled : (graph : Graph) (s : Core) (t : ℕ) → IsLawful graph s → SettledStays graph (apply graph s (steps.Start t))
started-settled graph s t h = same_cells-settled graph s (with_call s t started) h (with_call-calls s s t started (record { version = λ c. refl; changed = λ c. refl; looked = λ c. refl; looks = λ c. refl }) (same-calls s s refl)) refl

-- work at a node that changes neither its list nor its edges, and gathers nothing
worked-settled : (graph : Graph) (s q : Core) (n0 : ℕ) (f : Cell → Cell) → IsLawful graph s → ((c : Cell) → (f c).entries ≡ c.entries) → ((c : Cell) → (f c).outs ≡ c.outs) → ((c : Cell) → (f c).gathered ≡ c.gathered)
    → KeepsCalls s q → q.cells ≡ (with_cell s n0 f).cells → SettledStays graph q
worked-settled graph s q n0 f h es os gs c e = plain-settled graph s q h c
    (λ u n. same-picks (entries s n) (entries q n) u (same (λ x. x.entries) es n)) (λ m. same-places (live s) (entries s m) (entries q m) (same (λ x. x.entries) es m))
    (λ n m k. sym (same (λ x. is_some (gathered_of m x.gathered)) (λ x. ap (λ (ps : List (ℕ × Value)). is_some (gathered_of m ps)) (gs x)) n) ∙ k)
    (λ n m k. sym (same (λ x. has_node x.outs n) (λ x. ap (λ (ys : List OutEdge). has_node ys n) (os x)) m) ∙ k)
  where
    same : {A : Type 0} (read : Cell → A) → ((x : Cell) → read (f x) ≡ read x) → (n : ℕ) → read (cell q n) ≡ read (cell s n)
    same {A} read r n = ap (λ (cs : List Cell). read (cell (record q { cells = cs }) n)) e ∙ same-part read s n0 f r n

pub evaluated-settled : (graph : Graph) (s : Core) (t n : ℕ) → IsLawful graph s → SettledStays graph (apply graph s (steps.Evaluate t n))
evaluated-settled graph s t n h =
    let p = with_cell s n (keep_found (found_now graph s t n)) in
    worked-settled graph s (with_call p t counted) n (keep_found (found_now graph s t n)) h (λ c. refl) (λ c. refl) (λ c. refl)
    (with_call-calls s p t counted (record { version = λ c. refl; changed = λ c. refl; looked = λ c. refl; looks = λ c. refl }) (same-calls s p refl)) refl

pub body-settled : (graph : Graph) (s : Core) (t n : ℕ) → IsLawful graph s → SettledStays graph (apply graph s (steps.Body t n))
body-settled graph s t n h = worked-settled graph s (with_cell s n (keep_body (body_now graph s n))) n (keep_body (body_now graph s n)) h (λ c. refl) (λ c. refl) (λ c. refl) (same-calls s _ refl) refl

-- ---- a Mark

pub entered-picks : (graph : Graph) (s : Core) → IsLawful graph s → (t c : ℕ) → has (entries s c) t ≡ false → (u n : ℕ) → KeepsPicks (entries s n) (entries (enter s t c Mark) n) u
entered-picks graph s h t c fresh u n = go (with_cell-cell s c (place_entry s t Mark) n)
  where
    go : (cell (enter s t c Mark) n ≡ cell s n) ⊎ ((n ≡ c) × (cell (enter s t c Mark) n ≡ place_entry s t Mark (cell s n))) → KeepsPicks (entries s n) (entries (enter s t c Mark) n) u
    go (inl e) = same-picks (entries s n) (entries (enter s t c Mark) n) u (ap (λ (x : Cell). x.entries) e)
    go (inr e) = subst (λ (x : Cell). KeepsPicks (entries s n) x.entries u) (sym e.1)
        (marked-picks (stops_call s t) (new_entry s t Mark) (entries s n) u (h.one_entry n) (subst (λ (j : ℕ). has (entries s j) t ≡ false) (sym e.0) fresh) refl refl refl)

entered-places : (s : Core) (t c : ℕ) → live s t ≡ true → has (entries s c) t ≡ false → (n : ℕ) → KeepsPlaces (live s) (entries s n) (entries (enter s t c Mark) n)
entered-places s t c l fresh n = go (with_cell-cell s c (place_entry s t Mark) n)
  where
    go : (cell (enter s t c Mark) n ≡ cell s n) ⊎ ((n ≡ c) × (cell (enter s t c Mark) n ≡ place_entry s t Mark (cell s n))) → KeepsPlaces (live s) (entries s n) (entries (enter s t c Mark) n)
    go (inl e) = same-places (live s) (entries s n) (entries (enter s t c Mark) n) (ap (λ (x : Cell). x.entries) e)
    go (inr e) = subst (λ (x : Cell). KeepsPlaces (live s) (entries s n) x.entries) (sym e.1)
        (marked-places (live s) (stops_call s t) (new_entry s t Mark) (entries s n) (subst (λ (j : ℕ). has (entries s j) t ≡ false) (sym e.0) fresh) refl l)

pub marked-settled : (graph : Graph) (s : Core) (t c : ℕ) → IsLawful graph s → allowed graph s (steps.Mark t c) ≡ true → SettledStays graph (apply graph s (steps.Mark t c))
marked-settled graph s t c h a =
    let fresh = mark-no_entry graph s t c a in
    plain-settled graph s (enter s t c Mark) h (same-calls s (enter s t c Mark) refl) (entered-picks graph s h t c fresh) (entered-places s t c (executes-live s t (mark-executes graph s t c a)) fresh)
    (λ n m k. sym (same-part (λ x. is_some (gathered_of m x.gathered)) s c (place_entry s t Mark) (λ x. refl) n) ∙ k)
    (λ n m k. sym (same-part (λ x. has_node x.outs n) s c (place_entry s t Mark) (λ x. refl) m) ∙ k)

-- the call's Mark, unless it has an entry
pub ensured-picks : (graph : Graph) (s : Core) → IsLawful graph s → (t c u n : ℕ) → KeepsPicks (entries s n) (entries (ensure_mark s t c) n) u
ensured-picks graph s h t c u n = go (has (entries s c) t) refl
  where
    go : (b : Bool) → has (entries s c) t ≡ b → KeepsPicks (entries s n) (entries (elim b as (λ _. Core) [ true ↦ s | false ↦ enter s t c Mark ]) n) u
    go true e = same-picks (entries s n) (entries s n) u refl
    go false e = entered-picks graph s h t c e u n

pub ensured-places : (s : Core) (t c : ℕ) → live s t ≡ true → (n : ℕ) → KeepsPlaces (live s) (entries s n) (entries (ensure_mark s t c) n)
ensured-places s t c l n = go (has (entries s c) t) refl
  where
    go : (b : Bool) → has (entries s c) t ≡ b → KeepsPlaces (live s) (entries s n) (entries (elim b as (λ _. Core) [ true ↦ s | false ↦ enter s t c Mark ]) n)
    go true e = same-places (live s) (entries s n) (entries s n) refl
    go false e = entered-places s t c l e n

-- a part of a cell that is no list
pub ensured-read : {A : Type 0} (read : Cell → A) (s : Core) (t c : ℕ) → ((x : Cell) → read (place_entry s t Mark x) ≡ read x) → (n : ℕ) → read (cell (ensure_mark s t c) n) ≡ read (cell s n)
ensured-read {A} read s t c r n = go (has (entries s c) t)
  where
    go : (b : Bool) → read (cell (elim b as (λ _. Core) [ true ↦ s | false ↦ enter s t c Mark ]) n) ≡ read (cell s n)
    go true = refl
    go false = same-part read s c (place_entry s t Mark) r n

-- ---- Discover

pub added-node_less : (os : List OutEdge) (n0 t n : ℕ) → has_node (with_out os n0 t) n ≡ false → has_node os n ≡ false
added-node_less [] n0 t n h = refl
added-node_less (edge ∷ os) n0 t n h = let r = added-node_less os n0 t n in grind (arith, r, h)

pub discovered-settled : (graph : Graph) (s : Core) (t n0 c : ℕ) → IsLawful graph s → allowed graph s (steps.Discover t n0 c) ≡ true → SettledStays graph (apply graph s (steps.Discover t n0 c))
discovered-settled graph s t n0 c h a = plain-settled graph s (apply graph s (steps.Discover t n0 c)) h calls
    (λ u n. subst (λ (es : List Entry). KeepsPicks (entries s n) es u) (sym (lists n)) (ensured-picks graph s h t c u n))
    (λ m. subst (KeepsPlaces (live s) (entries s m)) (sym (lists m)) (ensured-places s t c lt m))
    (λ n m k. sym (ensured-read (λ x. is_some (gathered_of m x.gathered)) s t c (λ x. refl) n) ∙ sym (same-part (λ x. is_some (gathered_of m x.gathered)) p c (add_edge n0 t) (λ x. refl) n) ∙ k)
    edges
  where
    p : Core
    p = ensure_mark s t c

    q : Core
    q = with_cell p c (add_edge n0 t)

    lt : live s t ≡ true
    lt = executes-live s t (at_front-executes graph s t n0 (can_work-at_front graph s t n0 (due-can_work graph s t n0 (discover-due graph s t n0 c a))))

    calls : KeepsCalls s (apply graph s (steps.Discover t n0 c))
    calls = map_call-calls s q (tell_call (entries q c) t n0) (record { version = λ x. refl; changed = λ x. refl; looked = λ x. refl; looks = λ x. refl })
        (let k = ensured-calls s t c in record { changed = k.changed; looked = k.looked; lives = k.lives })

    lists : (m : ℕ) → entries q m ≡ entries p m
    lists m = same-part (λ x. x.entries) p c (add_edge n0 t) (λ x. refl) m

    edges : (n m : ℕ) → has_node (outs q m) n ≡ false → has_node (outs s m) n ≡ false
    edges n m k = sym (ensured-read (λ x. has_node x.outs n) s t c (λ x. refl) m) ∙ go (with_cell-cell p c (add_edge n0 t) m)
      where
        go : (cell q m ≡ cell p m) ⊎ ((m ≡ c) × (cell q m ≡ add_edge n0 t (cell p m))) → has_node (outs p m) n ≡ false
        go (inl e) = sym (ap (λ (x : Cell). has_node x.outs n) e) ∙ k
        go (inr e) = added-node_less (outs p m) n0 t n (sym (ap (λ (x : Cell). has_node x.outs n) e.1) ∙ k)

-- ---- Gather

gathered-more : (gs : List (ℕ × Value)) (m0 m : ℕ) (v : Value) → is_some (gathered_of m (gs ++ (m0, v) ∷ [])) ≡ true → (is_some (gathered_of m gs) ≡ true) ⊎ ((m0 == m) ≡ true)
gathered-more [] m0 m v h = go (m0 == m) refl h
  where
    go : (b : Bool) → (m0 == m) ≡ b → is_some (elim b as (λ _. Option Value) [ true ↦ Some v | false ↦ None ]) ≡ true → (is_some (gathered_of m []) ≡ true) ⊎ ((m0 == m) ≡ true)
    go true e k = inr e
    go false e k = absurd (true≢false (sym k))
gathered-more (p ∷ ps) m0 m v h = go (p.0 == m) h (gathered-more ps m0 m v)
  where
    go : (b : Bool) → is_some (elim b as (λ _. Option Value) [ true ↦ Some p.1 | false ↦ gathered_of m (ps ++ (m0, v) ∷ []) ]) ≡ true → (is_some (gathered_of m (ps ++ (m0, v) ∷ [])) ≡ true → (is_some (gathered_of m ps) ≡ true) ⊎ ((m0 == m) ≡ true))
        → (is_some (elim b as (λ _. Option Value) [ true ↦ Some p.1 | false ↦ gathered_of m ps ]) ≡ true) ⊎ ((m0 == m) ≡ true)
    go true k r = inl refl
    go false k r = r k

pub gathered-settled : (graph : Graph) (s : Core) (t n0 m0 : ℕ) → IsLawful graph s → allowed graph s (steps.Gather t n0 m0) ≡ true → SettledStays graph (apply graph s (steps.Gather t n0 m0))
gathered-settled graph s t n0 m0 h a = settled-stays graph s q h (by-nodes graph s q nodes (λ u m k. inl k)) (λ m. same-places (live s) (entries s m) (entries q m) (lists m)) (λ u l. l)
  where
    q : Core
    q = with_cell s n0 (gather m0 (value_at (entries s m0) t))

    lists : (m : ℕ) → entries q m ≡ entries s m
    lists m = same-part (λ x. x.entries) s n0 (gather m0 (value_at (entries s m0) t)) (λ x. refl) m

    head : heads s t n0 ≡ true
    head = at_front-heads graph s t n0 (can_work-at_front graph s t n0 (due-can_work graph s t n0 (and_left _ _ (and_left _ _ (and_left _ _ a)))))

    newly : (u m n : ℕ) → heads s u n ≡ true → is_gathered q n m ≡ true → (is_gathered s n m ≡ true) ⊎ IsServed (entries q m) u
    newly u m n x y = go (with_cell-cell s n0 (gather m0 (value_at (entries s m0) t)) n)
      where
        which : n ≡ n0 → (is_gathered s n m ≡ true) ⊎ ((m0 == m) ≡ true) → (is_gathered s n m ≡ true) ⊎ IsServed (entries q m) u
        which e (inl z) = inl z
        which e (inr z) = inr (subst (λ (es : List Entry). IsServed es u) (sym (lists m)) (subst (λ (j : ℕ). IsServed (entries s j) u) (eqb-true m0 m z)
            (subst (IsServed (entries s m0)) (sym (heads-same s t u n0 head (subst (λ (j : ℕ). heads s u j ≡ true) e x))) (served-is (entries s m0) t (h.one_entry m0) (and_right _ _ a)))))

        go : (cell q n ≡ cell s n) ⊎ ((n ≡ n0) × (cell q n ≡ gather m0 (value_at (entries s m0) t) (cell s n))) → (is_gathered s n m ≡ true) ⊎ IsServed (entries q m) u
        go (inl e) = inl (sym (ap (λ (x : Cell). is_some (gathered_of m x.gathered)) e) ∙ y)
        go (inr e) = which e.0 (gathered-more (cell s n).gathered m0 m (value_at (entries s m0) t) (sym (ap (λ (x : Cell). is_some (gathered_of m x.gathered)) e.1) ∙ y))

    nodes : (u m n : ℕ) → HowSettled graph q u m n → IsSettled graph s u m ⊎ IsServed (entries q m) u
    nodes u m n k = go (settled-or graph s q u m n (same-picks (entries s n) (entries q n) u (lists n)) (λ j c. c) (newly u m n)
        (λ _ _ e. inl (sym (same-part (λ x. has_node x.outs n) s n0 (gather m0 (value_at (entries s m0) t)) (λ x. refl) m) ∙ e)) k)
      where
        go : HowSettled graph s u m n ⊎ IsServed (entries q m) u → IsSettled graph s u m ⊎ IsServed (entries q m) u
        go (inl x) = inl (by_node n (settled-by graph s u m n x))
        go (inr x) = inr x

-- ---- Look

-- what is taken of a list with one more
take-more : (xs : List ℕ) (k m : ℕ) → is_in m (take (suc k) xs) ≡ true → (is_in m (take k xs) ≡ true) ⊎ (slice_get xs k ≡ Some m)
take-more [] k m h = absurd (true≢false (sym h))
take-more (x ∷ xs) zero m h = one (or_cases (x == m) false h)
  where
    one : ((x == m) ≡ true) ⊎ (false ≡ true) → (is_in m [] ≡ true) ⊎ (Some x ≡ Some m)
    one (inl e) = inr (ap (λ (j : ℕ). Some j) (eqb-true x m e))
    one (inr e) = absurd (true≢false (sym e))
take-more (x ∷ xs) (suc k) m h = go (or_cases (x == m) (is_in m (take (suc k) xs)) h) (take-more xs k m)
  where
    go : ((x == m) ≡ true) ⊎ (is_in m (take (suc k) xs) ≡ true) → (is_in m (take (suc k) xs) ≡ true → (is_in m (take k xs) ≡ true) ⊎ (slice_get xs k ≡ Some m)) → (is_in m (x ∷ take k xs) ≡ true) ⊎ (slice_get xs k ≡ Some m)
    go (inl e) further = inl (or_left _ _ e)
    go (inr e) further = cases (further e)
      where
        cases : (is_in m (take k xs) ≡ true) ⊎ (slice_get xs k ≡ Some m) → (is_in m (x ∷ take k xs) ≡ true) ⊎ (slice_get xs k ≡ Some m)
        cases (inl y) = inl (or_right (x == m) (is_in m (take k xs)) y)
        cases (inr y) = inr y

length-more : (vs : List Value) (v : Value) → length (vs ++ v ∷ []) ≡ suc (length vs)
length-more [] v = refl
length-more (x ∷ xs) v = ap suc (length-more xs v)

pub looked-settled : (graph : Graph) (s : Core) (t : ℕ) → IsLawful graph s → allowed graph s (steps.Look t) ≡ true → SettledStays graph (apply graph s (steps.Look t))
looked-settled graph s t h a = settled-stays graph s q h (by-nodes graph s q nodes looks) (λ m. same-places (live s) (entries s m) (entries q m) refl) (λ u l. ap (λ (f : ℕ → Bool). f u) (sym (with_call-live s t look (λ c. refl))) ∙ l)
  where
    look : LiveCall → LiveCall
    look = with_look (look_value s t (next_look s t))

    q : Core
    q = with_call s t look

    nodes : (u m n : ℕ) → HowSettled graph q u m n → IsSettled graph s u m ⊎ IsServed (entries q m) u
    nodes u m n k = inl (by_node n (settled-by graph s u m n (settled-before graph s q u m n (same-picks (entries s n) (entries q n) u refl) (λ j c. sym (with_call-keeps (λ x. is_in j x.changed) s t look (λ x. refl) (λ x. refl) u) ∙ c) (λ x. x) (λ x. x) k)))

    -- the new look is served
    served : (o : Option ℕ) → next_look s t ≡ o → served_look s t o ≡ true → (m : ℕ) → o ≡ Some m → IsServed (entries s m) t
    served None e k m f = cc
    served (Some i) e k m f = subst (λ (j : ℕ). IsServed (entries s j) t) (here f) (served-is (entries s i) t (h.one_entry i) k)
      where
        here : Some i ≡ Some m → i ≡ m
        here f = cc

    looks : (u m : ℕ) → looked_at q u m ≡ true → (looked_at s u m ≡ true) ⊎ IsServed (entries q m) u
    looks u m k = go (cases_Bool (u == t)) (with_call-field (λ x. is_in m (take (length x.looked) x.looks)) s t look (λ x. refl) u (executes-live s t (idle-executes s t (look-idle graph s t a))))
      where
        newer : (is_in m (take (length (call s t).looked) (call s t).looks) ≡ true) ⊎ (next_look s t ≡ Some m) → u ≡ t → (looked_at s u m ≡ true) ⊎ IsServed (entries s m) u
        newer (inl x) e = inl (subst (λ (v : ℕ). looked_at s v m ≡ true) (sym e) x)
        newer (inr x) e = inr (subst (IsServed (entries s m)) (sym e) (served (next_look s t) refl (and_right _ _ a) m x))

        go : ((u == t) ≡ true) ⊎ ((u == t) ≡ false) → looked_at q u m ≡ elim (u == t) as (λ _. Bool) [ true ↦ is_in m (take (length (look (call s t)).looked) (call s t).looks) | false ↦ looked_at s u m ] → (looked_at s u m ≡ true) ⊎ IsServed (entries q m) u
        go (inl e) x = newer (take-more (call s t).looks (length (call s t).looked) m (subst (λ (i : ℕ). is_in m (take i (call s t).looks) ≡ true) (length-more (call s t).looked (look_value s t (next_look s t))) (sym (rw e at x) ∙ k))) (eqb-true u t e)
        go (inr e) x = inl (sym (rw e at x) ∙ k)
