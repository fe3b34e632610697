-- Where a call has a Frame, all that reacts is open for it or wanted by it, after a beginning and the steps with no file of their own.
use Rattle.std.proofs.Common.{◌≡◌, ℕ, suc, Bool, true, false, ◌||◌, ◌==◌, ◌⊎◌, inl, inr, refl, sym, ap, arith, List, [], ◌∷◌, true≢false, ◌∙◌, subst, Option, Some, None}
use Rattle.std.specs.Prelude.{is_some}
use Rattle.std.specs.Prelude.{slice_get}
use Rattle.std.specs.List.{list_any}
use Rattle.std.proofs.lemmas.Bool.Decides.{eqb_tells}
use Rattle.std.proofs.lemmas.Bool.{or_cases, or_left, or_right, eqb-true, eq-eqb, false_from_ne_true, both_ways, cases_Bool}
use Rattle.script_tree.proofs.Truths.{and_left, and_right}
use Rattle.signal_graph.specs.declared.call.Call.{Call}
use Rattle.signal_graph.specs.Graph.{Graph, is_in}
use Rattle.node_versions.specs.declared.entry.State.{State}
use Rattle.node_versions.specs.declared.entry.State.TheVariants.{Mark}
use Rattle.node_versions.specs.declared.entry.Entry.{Entry}
use Rattle.node_versions.specs.Entries.{OutEdge, has, is_frame, behind, first_open, is_active, has_out, has_node, placed, value_at}
use Rattle.node_versions.proofs.Places.{at-has}
use Rattle.flow_model.specs.declared.step.Step.TheVariants as steps
use Rattle.flow_model.specs.Machine.Lists.{is_empty}
use Rattle.flow_model.specs.Machine.State.{Core, LiveCall, Cell, call, call_of, call_or, cell, live, entries, outs, opens, wants, with_call, with_cell}
use Rattle.flow_model.specs.Machine.Words.{found_now, next_look, body_now}
use Rattle.flow_model.specs.Machine.Changes.{stops, stops_call, new_entry, place_entry, enter, ensure_mark, remove_first, drop_edge}
use Rattle.flow_model.specs.Machine.Steps.{allowed, apply, begin, started, counted, with_look, look_value, keep_found, gather, keep_body, new_call}
use Rattle.flow_model.specs.Kept.Runs.{Run, Reading, read_all, nothing_read, last_run, discovered, runs, covers, reacts}
use Rattle.flow_model.specs.Kept.Lawful.{IsLawful, FramesAreOpen, FramesSpread}
use Rattle.flow_model.proofs.OneStep.WhoMayStep.{end-idle, mark-no_entry}
use Rattle.flow_model.proofs.OneList.CallsAndCells.{with_call-keeps, with_call-live, without_call-other, without_call-same}
use Rattle.flow_model.proofs.OneList.Entering.{with_cell-cell}
use Rattle.flow_model.proofs.OneStep.ChangesOfOneList.{same_cell}
use Rattle.flow_model.proofs.OrderStays.PartsOfStepsKeepOrder.{reads_without}
use Rattle.flow_model.proofs.OrderStays.OpenNodesHaveFrames.{cell-other, same_opens, step-FramesAreOpen}
use Rattle.flow_model.proofs.OneList.OneEntryACall.{placed-has}
use Rattle.flow_model.proofs.OneStep.SameCallers.{ensured}
use Rattle.flow_model.proofs.Wants.FramedWith.{opens-frame}
use Rattle.flow_model.proofs.Reactions.WhoReacts.{dropper_in, runs_in, any-parts, same-edges, same-runs, any-map, reacts-back, Covers, covers-parts, parts-covers, from-back, until-back, kept-reacts, same_lists-covers, marked-runs, placed-active, placed-behind}
use Rattle.flow_model.proofs.OneStep.BegunCalls.{begin-call}
use Rattle.flow_model.proofs.OrderStays.AfterEachStep.{not_begun-entry}

-- ---- steps that leave open and wanted nodes as they are

-- What reacts after the step to a node that is open for the call reacted before it.
pub spread-kept : (graph : Graph) (s : Core) → IsLawful graph s → (q : Core) → FramesAreOpen q → ((u n : ℕ) → opens q u n ≡ opens s u n) → ((u n : ℕ) → wants q u n ≡ wants s u n)
    → ((u m n : ℕ) → opens s u m ≡ true → reacts graph q u m n ≡ true → reacts graph s u m n ≡ true) → FramesSpread graph q
spread-kept graph s h q f os ws back u m n k r =
    let o : opens s u m ≡ true = sym (os u m) ∙ f.opens_frames u m ∙ k in
    let d = h.frames_spread u m n (opens-frame graph s h u m o) (back u m n o r) in
    ap (λ (x : Bool). x || wants q u n) (os u n) ∙ ap (λ (x : Bool). opens s u n || x) (ws u n) ∙ d

-- the same lists and out-edges, and no call lives that did not
pub same_lists-reacts : (graph : Graph) (s q : Core) → ((n : ℕ) → entries q n ≡ entries s n) → ((n : ℕ) → outs q n ≡ outs s n) → ((m z : ℕ) → has (entries s m) z ≡ true → live q z ≡ true → live s z ≡ true)
    → (u m n : ℕ) → reacts graph q u m n ≡ true → reacts graph s u m n ≡ true
same_lists-reacts graph s q es os l u m n = kept-reacts graph s q u m n (same-runs s q n m (es n) (os m)) (λ i r e. same_lists-covers s q m u (es m) (l m) r)

pub same_outs : (s : Core) (n : ℕ) (f : Cell → Cell) → ((c : Cell) → (f c).outs ≡ c.outs) → (m : ℕ) → outs (with_cell s n f) m ≡ outs s m
same_outs s n f k m = go (with_cell-cell s n f m)
  where
    go : (cell (with_cell s n f) m ≡ cell s m) ⊎ ((m ≡ n) × (cell (with_cell s n f) m ≡ f (cell s m))) → outs (with_cell s n f) m ≡ outs s m
    go (inl e) = ap (λ (c : Cell). c.outs) e
    go (inr e) = ap (λ (c : Cell). c.outs) e.1 ∙ k (cell s m)

-- a cell's work changes, and neither its list nor its out-edges
pub worked-reacts : (graph : Graph) (s : Core) (n0 : ℕ) (f : Cell → Cell) → ((c : Cell) → (f c).entries ≡ c.entries) → ((c : Cell) → (f c).outs ≡ c.outs) → (u m n : ℕ) → reacts graph (with_cell s n0 f) u m n ≡ true → reacts graph s u m n ≡ true
worked-reacts graph s n0 f k j = same_lists-reacts graph s (with_cell s n0 f) (same_cell graph s n0 f k) (same_outs s n0 f j) (λ m z k l. l)

-- one call changes, and lives on
pub call-reacts : (graph : Graph) (s : Core) (t : ℕ) (f : LiveCall → LiveCall) → ((c : LiveCall) → (f c).version ≡ c.version) → (u m n : ℕ) → reacts graph (with_call s t f) u m n ≡ true → reacts graph s u m n ≡ true
call-reacts graph s t f k = same_lists-reacts graph s (with_call s t f) (λ n. refl) (λ n. refl) (λ m z j l. subst (λ (x : ℕ → Bool). x z ≡ true) (with_call-live s t f k) l)

-- ---- a Mark more

-- A call without an entry gets one: no run of another call's covers more.
pub entered-covers : (graph : Graph) (s : Core) → IsLawful graph s → (state : State) (t c u m n : ℕ) → has (entries s c) t ≡ false → (t == u) ≡ false → (i : ℕ) (r : Run) → slice_get (runs s n m) i ≡ Some r → covers (enter s t c state) m u r ≡ true → covers s m u r ≡ true
entered-covers graph s h state t c u m n fresh ne i r e k = go (with_cell-cell s c (place_entry s t state) m)
  where
    q : Core
    q = enter s t c state

    k2 : Covers q m u r
    k2 = covers-parts q m u r k

    moved : m ≡ c → entries q m ≡ placed (stops s t) (new_entry s t state) (entries s m) → covers s m u r ≡ true
    moved j g = parts-covers s m u r (record {
      has_it = let b = k2.has_it in subst (λ (x : Bool). x ≡ true) (has-same) b;
      from = from-back s q m u r.begins (λ b _ a. placed-active (stops_call s t) (new_entry s t state) (entries s m) u b none ne (subst (λ (es : List Entry). is_active es b u ≡ true) g a)) k2.from;
      until = until-back s q m u r.ends (λ z x l b. (l, still z x l (subst (λ (es : List Entry). behind es u z ≡ true) g b))) k2.until;
    })
      where
        none : has (entries s m) t ≡ false
        none = subst (λ (x : ℕ). has (entries s x) t ≡ false) (sym j) fresh

        has-same : has (entries q m) u ≡ has (entries s m) u
        has-same = ap (λ (es : List Entry). has es u) g ∙ placed-has (stops_call s t) (new_entry s t state) (entries s m) u ∙ ap (λ (x : Bool). x || has (entries s m) u) ne

        still : (z : ℕ) → r.ends ≡ Some z → live s z ≡ true → behind (placed (stops s t) (new_entry s t state) (entries s m)) u z ≡ true → behind (entries s m) u z ≡ true
        still z x l b = cases (cases_Bool (t == z))
          where
            cases : ((t == z) ≡ true) ⊎ ((t == z) ≡ false) → behind (entries s m) u z ≡ true
            cases (inl w) = absurd (both_ways _ none (subst (λ (v : ℕ). has (entries s m) v ≡ true) (sym (eqb-true t z w)) (h.edges_are_kept.ends_entered n m i r z e x l)))
            cases (inr w) = sym (placed-behind (stops_call s t) (new_entry s t state) (entries s m) u z ne w) ∙ b

    go : (cell q m ≡ cell s m) ⊎ ((m ≡ c) × (cell q m ≡ place_entry s t state (cell s m))) → covers s m u r ≡ true
    go (inl j) = same_lists-covers s q m u (ap (λ (x : Cell). x.entries) j) (λ z j l. l) r k
    go (inr j) = moved j.0 (ap (λ (x : Cell). x.entries) j.1)

pub marked-covers : (graph : Graph) (s : Core) → IsLawful graph s → (t c u m n : ℕ) → has (entries s c) t ≡ false → (t == u) ≡ false → (i : ℕ) (r : Run) → slice_get (runs s n m) i ≡ Some r → covers (enter s t c Mark) m u r ≡ true → covers s m u r ≡ true
marked-covers graph s h t c u m n fresh ne i r e k = entered-covers graph s h Mark t c u m n fresh ne i r e k

pub entered-runs : (s : Core) (t c n m : ℕ) → runs (enter s t c Mark) n m ≡ runs s n m
entered-runs s t c n m = go (with_cell-cell s c (place_entry s t Mark) n)
  where
    q : Core
    q = enter s t c Mark

    edges : outs q m ≡ outs s m
    edges = same_outs s c (place_entry s t Mark) (λ x. refl) m

    go : (cell q n ≡ cell s n) ⊎ ((n ≡ c) × (cell q n ≡ place_entry s t Mark (cell s n))) → runs q n m ≡ runs s n m
    go (inl e) = same-runs s q n m (ap (λ (x : Cell). x.entries) e) edges
    go (inr e) = ap (λ (os : List OutEdge). runs_in (entries q n) os n m) edges ∙ ap (λ (es : List Entry). runs_in es (outs s m) n m) (ap (λ (x : Cell). x.entries) e.1) ∙ marked-runs (stops_call s t) (new_entry s t Mark) (entries s n) (outs s m) n m refl

marked-reacts : (graph : Graph) (s : Core) → IsLawful graph s → (t c : ℕ) → has (entries s c) t ≡ false → (u m n : ℕ) → opens s u m ≡ true → reacts graph (enter s t c Mark) u m n ≡ true → reacts graph s u m n ≡ true
marked-reacts graph s h t c fresh u m n o k = go (cases_Bool (t == u))
  where
    q : Core
    q = enter s t c Mark

    go : ((t == u) ≡ true) ⊎ ((t == u) ≡ false) → reacts graph s u m n ≡ true
    go (inr ne) = kept-reacts graph s q u m n (entered-runs s t c n m) (marked-covers graph s h t c u m n fresh ne) k
    go (inl e) = kept-reacts graph s q u m n (entered-runs s t c n m) (λ i r _ x. same_lists-covers s q m u other (λ z j l. l) r x) k
      where
        -- the call has the node open, so it is another than the one that it enters
        apart : (m == c) ≡ false
        apart = false_from_ne_true _ (λ x. both_ways _ fresh (subst (λ (w : ℕ). has (entries s w) t ≡ true) (eqb-true m c x) (subst (λ (v : ℕ). has (entries s m) v ≡ true) (sym (eqb-true t u e)) (at-has is_frame (entries s m) u (opens-frame graph s h u m o)))))

        other : entries q m ≡ entries s m
        other = ap (λ (x : Cell). x.entries) (cell-other s c m (place_entry s t Mark) apart)

ensured-reacts : (graph : Graph) (s : Core) → IsLawful graph s → (t c : ℕ) → (u m n : ℕ) → opens s u m ≡ true → reacts graph (ensure_mark s t c) u m n ≡ true → reacts graph s u m n ≡ true
ensured-reacts graph s h t c u m n o k = go (has (entries s c) t) refl k
  where
    go : (b : Bool) → has (entries s c) t ≡ b → reacts graph (elim b as (λ _. Core) [ true ↦ s | false ↦ enter s t c Mark ]) u m n ≡ true → reacts graph s u m n ≡ true
    go true e r = r
    go false e r = marked-reacts graph s h t c e u m n o r

-- ---- an out-edge less

pub removed-node : (n0 n : ℕ) (os : List OutEdge) → (n == n0) ≡ false → has_node (remove_first n0 os) n ≡ has_node os n
removed-node n0 n [] ne = refl
removed-node n0 n (edge ∷ os) ne = let r = removed-node n0 n os ne in grind (arith, eqb_tells, r, ne)

pub removed-out : (n0 n t : ℕ) (os : List OutEdge) → (n == n0) ≡ false → has_out (remove_first n0 os) n t ≡ has_out os n t
removed-out n0 n t [] ne = refl
removed-out n0 n t (edge ∷ os) ne = let r = removed-out n0 n t os ne in grind (arith, eqb_tells, r, ne)

pub removed-less : (n0 n t : ℕ) (os : List OutEdge) → has_out (remove_first n0 os) n t ≡ true → has_out os n t ≡ true
removed-less n0 n t [] h = h
removed-less n0 n t (edge ∷ os) h = let r = removed-less n0 n t os in grind (arith, eqb_tells, r, h)

-- A run that ends at some call covers no more than one without an end.
pub removed-any : (test : Run → Bool) → ((r : Run) (z : Option ℕ) → test (record r { ends = z }) ≡ true → test (record r { ends = None }) ≡ true) → (es : List Entry) (os : List OutEdge) (n0 n m : ℕ) → has_node os n0 ≡ true
    → list_any test (runs_in es (remove_first n0 os) n m) ≡ true → list_any test (runs_in es os n m) ≡ true
removed-any test longer es os n0 n m e h = go (cases_Bool (n == n0))
  where
    q : Reading
    q = read_all m es nothing_read

    stands : (n == n0) ≡ true → dropper_in es os n ≡ None
    stands x = let k = subst (λ (w : ℕ). has_node os w ≡ true) (sym (eqb-true n n0 x)) e in rw (k, dropper_in) refl

    last : (c : Option Run) (z : Option ℕ) → list_any test (last_run c z) ≡ true → list_any test (last_run c None) ≡ true
    last None z k = k
    last (Some r) z k = or_left _ _ (longer r z (only _ k))
      where
        only : (a : Bool) → (a || false) ≡ true → a ≡ true
        only true k = refl
        only false k = k

    new : (o : Option ℕ) → list_any test (discovered o n (remove_first n0 os)) ≡ true → list_any test (discovered o n os) ≡ true
    new None k = k
    new (Some t) k = cases (has_out (remove_first n0 os) n t) refl k
      where
        cases : (b : Bool) → has_out (remove_first n0 os) n t ≡ b → list_any test (elim b as (λ _. List Run) [ true ↦ record { begins = Some t; ends = None } ∷ [] | false ↦ [] ]) ≡ true → list_any test (discovered (Some t) n os) ≡ true
        cases false x y = absurd (true≢false (sym y))
        cases true x y = rw (removed-less n0 n t os x, discovered) y

    go : ((n == n0) ≡ true) ⊎ ((n == n0) ≡ false) → list_any test (runs_in es os n m) ≡ true
    go (inr x) = subst (λ (rs : List Run). list_any test rs ≡ true) (same-edges es os (remove_first n0 os) n m (removed-node n0 n os x) (λ t. removed-out n0 n t os x)) h
    go (inl x) = any-parts test es os n m ∙ parts (or_cases _ _ (sym (any-parts test es (remove_first n0 os) n m) ∙ h))
      where
        two : (list_any test q.closed ≡ true) ⊎ (list_any test (last_run q.current (dropper_in es (remove_first n0 os) n)) ≡ true) → (list_any test q.closed || list_any test (last_run q.current (dropper_in es os n))) ≡ true
        two (inl a) = or_left _ _ a
        two (inr a) = or_right _ _ (subst (λ (z : Option ℕ). list_any test (last_run q.current z) ≡ true) (sym (stands x)) (last q.current (dropper_in es (remove_first n0 os) n) a))

        parts : ((list_any test q.closed || list_any test (last_run q.current (dropper_in es (remove_first n0 os) n))) ≡ true) ⊎ (list_any test (discovered (first_open es) n (remove_first n0 os)) ≡ true)
            → ((list_any test q.closed || list_any test (last_run q.current (dropper_in es os n))) || list_any test (discovered (first_open es) n os)) ≡ true
        parts (inl a) = or_left _ _ (two (or_cases _ _ a))
        parts (inr a) = or_right _ _ (new (first_open es) a)

pub dropped-reacts : (graph : Graph) (s : Core) (o n0 : ℕ) → has_node (outs s o) n0 ≡ true → (u m n : ℕ) → reacts graph (with_cell s o (drop_edge n0)) u m n ≡ true → reacts graph s u m n ≡ true
dropped-reacts graph s o n0 e u m n k = go (with_cell-cell s o (drop_edge n0) m)
  where
    q : Core
    q = with_cell s o (drop_edge n0)

    lists : (j : ℕ) → entries q j ≡ entries s j
    lists = same_cell graph s o (drop_edge n0) (λ x. refl)

    covered : (r : Run) → covers q m u r ≡ true → covers s m u r ≡ true
    covered r x = same_lists-covers s q m u (lists m) (λ z j l. l) r x

    longer : (r : Run) (z : Option ℕ) → covers s m u (record r { ends = z }) ≡ true → covers s m u (record r { ends = None }) ≡ true
    longer r z x = let c = covers-parts s m u (record r { ends = z }) x in parts-covers s m u (record r { ends = None }) (record { has_it = c.has_it; from = c.from; until = refl })

    go : (cell q m ≡ cell s m) ⊎ ((m ≡ o) × (cell q m ≡ drop_edge n0 (cell s m))) → reacts graph s u m n ≡ true
    go (inl j) = kept-reacts graph s q u m n (same-runs s q n m (lists n) (ap (λ (c : Cell). c.outs) j)) (λ i r _ x. covered r x) k
    go (inr j) = reacts-back graph s q u m n (λ x. removed-any (covers s m u) longer (entries s n) (outs s m) n0 n m (subst (λ (w : ℕ). has_node (outs s w) n0 ≡ true) (sym j.0) e)
        (any-map (covers q m u) (covers s m u) (runs_in (entries s n) (remove_first n0 (outs s m)) n m) (λ i r _ y. covered r y)
        (subst (λ (rs : List Run). list_any (covers q m u) rs ≡ true) (ap (λ (es : List Entry). runs_in es (outs q m) n m) (lists n) ∙ ap (λ (os : List OutEdge). runs_in (entries s n) os n m) (ap (λ (c : Cell). c.outs) j.1)) x))) k

-- ---- the steps that leave open and wanted nodes as they are

pub started-spread : (graph : Graph) (s : Core) (t : ℕ) → IsLawful graph s → allowed graph s (steps.Start t) ≡ true → FramesSpread graph (apply graph s (steps.Start t))
started-spread graph s t h a = spread-kept graph s h (apply graph s (steps.Start t)) (step-FramesAreOpen graph s (steps.Start t) h a) (λ u n. same_opens s t started (λ x. refl) (λ x. refl) u n)
    (λ u n. with_call-keeps (λ x. is_in n x.wanted) s t started (λ x. refl) (λ x. refl) u) (λ u m n o. call-reacts graph s t started (λ x. refl) u m n)

pub gathered-spread : (graph : Graph) (s : Core) (t n0 i : ℕ) → IsLawful graph s → allowed graph s (steps.Gather t n0 i) ≡ true → FramesSpread graph (apply graph s (steps.Gather t n0 i))
gathered-spread graph s t n0 i h a = spread-kept graph s h (apply graph s (steps.Gather t n0 i)) (step-FramesAreOpen graph s (steps.Gather t n0 i) h a) (λ u n. refl) (λ u n. refl)
    (λ u m n o. worked-reacts graph s n0 (gather i (value_at (entries s i) t)) (λ x. refl) (λ x. refl) u m n)

pub evaluated-spread : (graph : Graph) (s : Core) (t n0 : ℕ) → IsLawful graph s → allowed graph s (steps.Evaluate t n0) ≡ true → FramesSpread graph (apply graph s (steps.Evaluate t n0))
evaluated-spread graph s t n0 h a =
    let q = with_cell s n0 (keep_found (found_now graph s t n0)) in
    spread-kept graph s h (apply graph s (steps.Evaluate t n0)) (step-FramesAreOpen graph s (steps.Evaluate t n0) h a) (λ u n. same_opens q t counted (λ x. refl) (λ x. refl) u n)
    (λ u n. with_call-keeps (λ x. is_in n x.wanted) q t counted (λ x. refl) (λ x. refl) u)
    (λ u m n o k. worked-reacts graph s n0 (keep_found (found_now graph s t n0)) (λ x. refl) (λ x. refl) u m n (call-reacts graph q t counted (λ x. refl) u m n k))

pub body-spread : (graph : Graph) (s : Core) (t n0 : ℕ) → IsLawful graph s → allowed graph s (steps.Body t n0) ≡ true → FramesSpread graph (apply graph s (steps.Body t n0))
body-spread graph s t n0 h a = spread-kept graph s h (apply graph s (steps.Body t n0)) (step-FramesAreOpen graph s (steps.Body t n0) h a) (λ u n. refl) (λ u n. refl)
    (λ u m n o. worked-reacts graph s n0 (keep_body (body_now graph s n0)) (λ x. refl) (λ x. refl) u m n)

pub marked-spread : (graph : Graph) (s : Core) (t c : ℕ) → IsLawful graph s → allowed graph s (steps.Mark t c) ≡ true → FramesSpread graph (apply graph s (steps.Mark t c))
marked-spread graph s t c h a = spread-kept graph s h (apply graph s (steps.Mark t c)) (step-FramesAreOpen graph s (steps.Mark t c) h a) (λ u n. refl) (λ u n. refl) (λ u m n o k. marked-reacts graph s h t c (mark-no_entry graph s t c a) u m n o k)

pub looked-spread : (graph : Graph) (s : Core) (t : ℕ) → IsLawful graph s → allowed graph s (steps.Look t) ≡ true → FramesSpread graph (apply graph s (steps.Look t))
looked-spread graph s t h a =
    let f = with_look (look_value s t (next_look s t)) in
    spread-kept graph s h (apply graph s (steps.Look t)) (step-FramesAreOpen graph s (steps.Look t) h a) (λ u n. same_opens s t f (λ x. refl) (λ x. refl) u n)
    (λ u n. with_call-keeps (λ x. is_in n x.wanted) s t f (λ x. refl) (λ x. refl) u) (λ u m n o. call-reacts graph s t f (λ x. refl) u m n)

pub ensured-edges : (s : Core) (t c m : ℕ) → outs (ensure_mark s t c) m ≡ outs s m
ensured-edges s t c m = go (has (entries s c) t)
  where
    go : (b : Bool) → outs (elim b as (λ _. Core) [ true ↦ s | false ↦ enter s t c Mark ]) m ≡ outs s m
    go true = refl
    go false = same_outs s c (place_entry s t Mark) (λ x. refl) m

pub dropped-spread : (graph : Graph) (s : Core) (t n0 o : ℕ) → IsLawful graph s → allowed graph s (steps.Drop t n0 o) ≡ true → FramesSpread graph (apply graph s (steps.Drop t n0 o))
dropped-spread graph s t n0 o h a =
    let p = ensure_mark s t o in
    let e : has_node (outs s o) n0 ≡ true = and_right _ _ (and_left _ _ a) in
    spread-kept graph s h (apply graph s (steps.Drop t n0 o)) (step-FramesAreOpen graph s (steps.Drop t n0 o) h a) (λ u n. ensured (λ x. is_in n x.open_nodes) s t o u) (λ u n. ensured (λ x. is_in n x.wanted) s t o u)
    (λ u m n x k. ensured-reacts graph s h t o u m n x (dropped-reacts graph p o n0 (subst (λ (os : List OutEdge). has_node os n0 ≡ true) (sym (ensured-edges s t o o)) e) u m n k))

-- A call that ends has nothing open and wants nothing.
pub ended-spread : (graph : Graph) (s : Core) (t : ℕ) → IsLawful graph s → allowed graph s (steps.End t) ≡ true → FramesSpread graph (apply graph s (steps.End t))
ended-spread graph s t h a = spread-kept graph s h q (step-FramesAreOpen graph s (steps.End t) h a) (λ u n. read (λ c. c.open_nodes) refl (and_right _ _ (end-idle graph s t a)) u n)
    (λ u n. read (λ c. c.wanted) refl (and_right _ _ (and_left _ _ (end-idle graph s t a))) u n)
    (λ u m n o. same_lists-reacts graph s q (λ j. refl) (λ j. refl) (λ j z k l. let r = reads_without is_some refl t s.calls z in grind (arith, r, l)) u m n)
  where
    q : Core
    q = apply graph s (steps.End t)

    none : (xs : List ℕ) (n : ℕ) → is_empty xs ≡ true → is_in n xs ≡ false
    none [] n e = refl
    none (x ∷ xs) n e = absurd (true≢false (sym e))

    read : (f : LiveCall → List ℕ) → f (call_or None) ≡ [] → is_empty (f (call s t)) ≡ true → (u n : ℕ) → is_in n (f (call q u)) ≡ is_in n (f (call s u))
    read f z e u n = go (cases_Bool (u == t))
      where
        go : ((u == t) ≡ true) ⊎ ((u == t) ≡ false) → is_in n (f (call q u)) ≡ is_in n (f (call s u))
        go (inl k) = subst (λ (v : ℕ). is_in n (f (call q v)) ≡ is_in n (f (call s v))) (sym (eqb-true u t k))
            (ap (λ (o : Option LiveCall). is_in n (f (call_or o))) (without_call-same t s.calls) ∙ ap (is_in n) z ∙ sym (none (f (call s t)) n e))
        go (inr k) = ap (λ (o : Option LiveCall). is_in n (f (call_or o))) (without_call-other t u s.calls (λ x. both_ways _ k (eq-eqb u t x)))

-- A call that begins has no entry, so no run ends at it that covers a call.
pub begin-FramesSpread : (graph : Graph) (s : Core) (caller : ℕ) (c : Call) → IsLawful graph s → FramesSpread graph (begin graph s caller c)
begin-FramesSpread graph s caller c h u m n k r = go (begin-call graph s h caller c u)
  where
    q : Core
    q = begin graph s caller c

    lived : (j z : ℕ) → has (entries s j) z ≡ true → live q z ≡ true → live s z ≡ true
    lived j z x l = cases (begin-call graph s h caller c z)
      where
        cases : ((call_of q.calls z ≡ call_of s.calls z) × ((suc s.begun == z) ≡ false)) ⊎ ((z ≡ suc s.begun) × (call_of q.calls z ≡ Some (new_call graph s caller c))) → live s z ≡ true
        cases (inl e) = ap is_some (sym e.0) ∙ l
        cases (inr e) = absurd (both_ways _ (not_begun-entry graph s h j) (subst (λ (v : ℕ). has (entries s j) v ≡ true) e.0 x))

    back : reacts graph s u m n ≡ true
    back = same_lists-reacts graph s q (λ j. refl) (λ j. refl) lived u m n r

    go : ((call_of q.calls u ≡ call_of s.calls u) × ((suc s.begun == u) ≡ false)) ⊎ ((u ≡ suc s.begun) × (call_of q.calls u ≡ Some (new_call graph s caller c))) → (opens q u n || wants q u n) ≡ true
    go (inl e) = ap (λ (o : Option LiveCall). is_in n (call_or o).open_nodes || is_in n (call_or o).wanted) e.0 ∙ h.frames_spread u m n k back
    go (inr e) = absurd (both_ways _ (not_begun-entry graph s h m) (subst (λ (v : ℕ). has (entries s m) v ≡ true) e.0 (at-has is_frame (entries s m) u k)))
