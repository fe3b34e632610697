-- Where a call has a Frame, all that reacts is open for it or wanted by it, after Discover.
use Rattle.std.proofs.Common.{◌≡◌, ℕ, Bool, true, false, ◌&&◌, ◌||◌, not, ◌==◌, ◌⊎◌, inl, inr, refl, sym, ap, arith, List, [], ◌∷◌, true≢false, ◌∙◌, subst, Option, Some, None}
use Rattle.std.specs.Prelude.{slice_get, is_some}
use Rattle.std.specs.List.{list_any}
use Rattle.std.proofs.lemmas.Bool.Decides.{eqb_tells}
use Rattle.std.proofs.lemmas.Bool.{or_cases, or_left, or_right, eqb-true, eq-eqb, false_from_ne_true, both_ways, cases_Bool, not-true}
use Rattle.script_tree.proofs.Truths.{and_left, and_right}
use Rattle.signal_graph.specs.Graph.{Graph, is_in, static_outs}
use Rattle.node_versions.specs.declared.entry.State.TheVariants.{Mark}
use Rattle.node_versions.specs.declared.entry.Entry.{Entry}
use Rattle.node_versions.specs.Entries.{OutEdge, has, at, is_frame, behind, up_to, first_open, has_out, has_node, with_out}
use Rattle.node_versions.proofs.Places.{at-has}
use Rattle.flow_model.specs.declared.step.Step.TheVariants as steps
use Rattle.flow_model.specs.Machine.State.{Core, LiveCall, Cell, call_of, call_or, cell, live, entries, outs, opens, wants, with_cell}
use Rattle.flow_model.specs.Machine.Words.{heads, is_prior}
use Rattle.flow_model.specs.Machine.Changes.{place_entry, enter, ensure_mark, add_edge, hands_on, is_told, tell_call, tell, stops_call, new_entry}
use Rattle.flow_model.specs.Machine.Steps.{allowed, apply}
use Rattle.flow_model.specs.Kept.Runs.{Run, Reading, read_all, nothing_read, last_run, discovered, runs, covers, reacts}
use Rattle.flow_model.specs.Kept.Lawful.{IsLawful, FramesSpread, picks_last, last_run_of}
use Rattle.flow_model.proofs.OneStep.WhoMayStep.{opens-live, at_front-heads, can_work-at_front, due-can_work, discover-due}
use Rattle.flow_model.proofs.OneList.OneEntryACall.{placed-has}
use Rattle.flow_model.proofs.OneList.CallsAndCells.{map_call-live, map_call-keeps, map_call-reads, option_call}
use Rattle.flow_model.proofs.OneList.Entering.{with_cell-cell}
use Rattle.flow_model.proofs.OneStep.ChangesOfOneList.{same_cell}
use Rattle.flow_model.proofs.OrderStays.OpenNodesHaveFrames.{cell-there, cell-other, entry-there, step-FramesAreOpen}
use Rattle.flow_model.proofs.OneStep.SameCallers.{ensured}
use Rattle.flow_model.proofs.OrderStays.NoFrameBeforeDones.{head-first}
use Rattle.flow_model.proofs.Wants.FramedWith.{opens-frame, heads-opens}
use Rattle.flow_model.proofs.Reactions.WhereRunsBegin.{picked_in, seen-all, before-last}
use Rattle.flow_model.proofs.OneList.ActiveEdges.{active-behind}
use Rattle.flow_model.proofs.Wants.WantsAreFree.{call_of-version, told-wants, ensured-live}
use Rattle.flow_model.proofs.Reactions.WhoReacts.{dropper_in, runs_in, any-parts, same-edges, any-map, Covers, covers-parts, same_lists-covers, marked-runs}
use Rattle.flow_model.proofs.FramesSpread.AfterOtherSteps.{same_lists-reacts, marked-covers, ensured-edges}

-- ---- the first open call's prior picks

-- They are the picks of the last Done.
pub head-prior : (graph : Graph) (s : Core) → IsLawful graph s → (t n m : ℕ) → heads s t n ≡ true → is_prior s t n m ≡ picks_last s n m
head-prior graph s h t n m k =
    let f = opens-frame graph s h t n (heads-opens graph s h t n k) in
    ap (picked_in m) (before-last (entries s n) t (h.one_entry n) f (λ v b. h.frames_are_open.behind_dones n t v b f))

-- A node that was not picked last has no run in which the list ends.
pub not_picked-none : (s : Core) (n m : ℕ) → picks_last s n m ≡ false → last_run_of s n m ≡ None
not_picked-none s n m k = go (last_run_of s n m) refl
  where
    go : (o : Option Run) → last_run_of s n m ≡ o → last_run_of s n m ≡ None
    go None e = e
    go (Some r) e = absurd (both_ways _ k (sym (seen-all m (entries s n)) ∙ ap is_some e))

-- ---- one out-edge more

pub added-node : (n0 n t : ℕ) (os : List OutEdge) → (n == n0) ≡ false → has_node (with_out os n0 t) n ≡ has_node os n
added-node n0 n t [] ne = grind (arith, eqb_tells, ne)
added-node n0 n t (edge ∷ os) ne = let r = added-node n0 n t os ne in grind (arith, r)

pub added-out : (n0 n t x : ℕ) (os : List OutEdge) → (n == n0) ≡ false → has_out (with_out os n0 t) n x ≡ has_out os n x
added-out n0 n t x [] ne = grind (arith, eqb_tells, ne)
added-out n0 n t x (edge ∷ os) ne = let r = added-out n0 n t x os ne in grind (arith, r)

-- the run that begins with the edge
abbrev pub new_run : ℕ → Run
new_run t = record { begins = Some t; ends = None }

-- The runs after an edge is added for the first open call: those before, and the one that begins with it.
pub added-any : (test : Run → Bool) (es : List Entry) (os : List OutEdge) (n0 n m t : ℕ) → (n == n0) ≡ true → first_open es ≡ Some t → (read_all m es nothing_read).current ≡ None
    → list_any test (runs_in es (with_out os n0 t) n m) ≡ true → (list_any test (runs_in es os n m) ≡ true) ⊎ (test (new_run t) ≡ true)
added-any test es os n0 n m t x f c h = parts (or_cases _ _ (sym (any-parts test es (with_out os n0 t) n m) ∙ h))
  where
    q : Reading
    q = read_all m es nothing_read

    only : (a : Bool) → (a || false) ≡ true → a ≡ true
    only true k = refl
    only false k = k

    new : (o : Option ℕ) → o ≡ Some t → list_any test (discovered o n (with_out os n0 t)) ≡ true → test (new_run t) ≡ true
    new None e k = cc
    new (Some u) e k = cases (has_out (with_out os n0 t) n u) k
      where
        same : {a b : ℕ} → Some a ≡ Some b → a ≡ b
        same e = cc

        cases : (b : Bool) → list_any test (elim b as (λ _. List Run) [ true ↦ new_run u ∷ [] | false ↦ [] ]) ≡ true → test (new_run t) ≡ true
        cases false y = absurd (true≢false (sym y))
        cases true y = subst (λ (v : ℕ). test (new_run v) ≡ true) (same e) (only _ y)

    last : (o : Option Run) → o ≡ None → (z : Option ℕ) → list_any test (last_run o z) ≡ true → ⊥
    last None e z k = true≢false (sym k)
    last (Some r) e z k = cc

    two : (list_any test q.closed ≡ true) ⊎ (list_any test (last_run q.current (dropper_in es (with_out os n0 t) n)) ≡ true) → list_any test (runs_in es os n m) ≡ true
    two (inl a) = any-parts test es os n m ∙ or_left _ _ (or_left _ _ a)
    two (inr a) = absurd (last q.current c _ a)

    parts : ((list_any test q.closed || list_any test (last_run q.current (dropper_in es (with_out os n0 t) n))) ≡ true) ⊎ (list_any test (discovered (first_open es) n (with_out os n0 t)) ≡ true) → (list_any test (runs_in es os n m) ≡ true) ⊎ (test (new_run t) ≡ true)
    parts (inl a) = inl (two (or_cases _ _ a))
    parts (inr a) = inr (new (first_open es) f a)

-- ---- the list with the call's Mark

pub ensured-runs_in : (s : Core) (t c n m : ℕ) (os : List OutEdge) → runs_in (entries (ensure_mark s t c) n) os n m ≡ runs_in (entries s n) os n m
ensured-runs_in s t c n m os = go (has (entries s c) t)
  where
    entered : (cell (enter s t c Mark) n ≡ cell s n) ⊎ ((n ≡ c) × (cell (enter s t c Mark) n ≡ place_entry s t Mark (cell s n))) → runs_in (entries (enter s t c Mark) n) os n m ≡ runs_in (entries s n) os n m
    entered (inl e) = ap (λ (x : Cell). runs_in x.entries os n m) e
    entered (inr e) = ap (λ (x : Cell). runs_in x.entries os n m) e.1 ∙ marked-runs (stops_call s t) (new_entry s t Mark) (entries s n) os n m refl

    go : (b : Bool) → runs_in (entries (elim b as (λ _. Core) [ true ↦ s | false ↦ enter s t c Mark ]) n) os n m ≡ runs_in (entries s n) os n m
    go true = refl
    go false = entered (with_cell-cell s c (place_entry s t Mark) n)

ensured-covers : (graph : Graph) (s : Core) → IsLawful graph s → (t c u m n : ℕ) → opens s u m ≡ true → (i : ℕ) (r : Run) → slice_get (runs s n m) i ≡ Some r → covers (ensure_mark s t c) m u r ≡ true → covers s m u r ≡ true
ensured-covers graph s h t c u m n o i r e k = go (has (entries s c) t) refl k
  where
    entered : has (entries s c) t ≡ false → covers (enter s t c Mark) m u r ≡ true → ((t == u) ≡ true) ⊎ ((t == u) ≡ false) → covers s m u r ≡ true
    entered fresh x (inr ne) = marked-covers graph s h t c u m n fresh ne i r e x
    entered fresh x (inl y) =
        let apart : (m == c) ≡ false = false_from_ne_true _ (λ z. both_ways _ fresh (subst (λ (w : ℕ). has (entries s w) t ≡ true) (eqb-true m c z) (subst (λ (v : ℕ). has (entries s m) v ≡ true) (sym (eqb-true t u y)) (at-has is_frame (entries s m) u (opens-frame graph s h u m o))))) in
        same_lists-covers s (enter s t c Mark) m u (ap (λ (w : Cell). w.entries) (cell-other s c m (place_entry s t Mark) apart)) (λ z j l. l) r x

    go : (b : Bool) → has (entries s c) t ≡ b → covers (elim b as (λ _. Core) [ true ↦ s | false ↦ enter s t c Mark ]) m u r ≡ true → covers s m u r ≡ true
    go true x y = y
    go false x y = entered x y (cases_Bool (t == u))

pub ensured-has : (s : Core) (t c u : ℕ) → has (entries s c) u ≡ true → has (entries (ensure_mark s t c) c) t ≡ true
ensured-has s t c u k = go (has (entries s c) t) refl
  where
    go : (b : Bool) → has (entries s c) t ≡ b → has (entries (elim b as (λ _. Core) [ true ↦ s | false ↦ enter s t c Mark ]) c) t ≡ true
    go true e = e
    go false e = ap (λ (x : Cell). has x.entries t) (cell-there s c (place_entry s t Mark) (entry-there s c u k)) ∙ placed-has (stops_call s t) (new_entry s t Mark) (entries s c) t ∙ or_left _ _ (eq-eqb t t refl)

-- ---- telling

frame-hands_on : (es : List Entry) (u : ℕ) → at is_frame es u ≡ true → at hands_on es u ≡ true
frame-hands_on [] u h = h
frame-hands_on (e ∷ es) u h = let r = frame-hands_on es u in grind (arith, h, r)

pub tell-keeps : (s : Core) (c t n u m : ℕ) → wants s u m ≡ true → wants (tell s t n c) u m ≡ true
tell-keeps s c t n u m w = ap (λ (o : Option LiveCall). is_in m (call_or o).wanted) (map_call-reads (tell_call (entries s c) t n) (λ x. refl) s.calls u) ∙ go (call_of s.calls u) w
  where
    go : (o : Option LiveCall) → is_in m (call_or o).wanted ≡ true → is_in m (call_or (option_call (tell_call (entries s c) t n) o)).wanted ≡ true
    go None k = k
    go (Some x) k = told-wants (is_told (entries s c) t n x) m n x.wanted ∙ or_left _ _ k

-- A call with a Frame behind the teller's entry has the node open, or wants it from now on.
tell-tells : (s : Core) (c t n u : ℕ) → live s u ≡ true → behind (entries s c) t u ≡ true → at is_frame (entries s c) u ≡ true → (opens s u n || wants (tell s t n c) u n) ≡ true
tell-tells s c t n u l b f = ap (λ (x : Bool). opens s u n || x) (ap (λ (o : Option LiveCall). is_in n (call_or o).wanted) (map_call-reads (tell_call (entries s c) t n) (λ x. refl) s.calls u)) ∙ go (call_of s.calls u) refl l
  where
    told : (x : LiveCall) → x.version ≡ u → (is_in n x.open_nodes || is_in n (tell_call (entries s c) t n x).wanted) ≡ true
    told x v =
        let b2 = subst (λ (w : ℕ). behind (entries s c) t w ≡ true) (sym v) b in
        let f2 = subst (λ (w : ℕ). at hands_on (entries s c) w ≡ true) (sym v) (frame-hands_on (entries s c) u f) in
        let w = told-wants (is_told (entries s c) t n x) n n x.wanted in
        let e = eq-eqb n n refl in
        join (is_in n x.open_nodes) (is_in n x.wanted) (behind (entries s c) t x.version) (at hands_on (entries s c) x.version) (n == n) _ b2 f2 e w
      where
        join : (o w b f e r : Bool) → b ≡ true → f ≡ true → e ≡ true → r ≡ (w || (e && (b && f && not o))) → (o || r) ≡ true
        join true w b f e r x y z k = refl
        join false w b f e r x y z k = grind (arith, x, y, z, k)

    go : (o : Option LiveCall) → call_of s.calls u ≡ o → is_some o ≡ true → (is_in n (call_or o).open_nodes || is_in n (call_or (option_call (tell_call (entries s c) t n) o)).wanted) ≡ true
    go None e k = absurd (true≢false (sym k))
    go (Some x) e k = told x (call_of-version s.calls u x e)

-- ---- the step

pub discovered-runs : (s : Core) (t c n0 n m : ℕ) → runs (with_cell (ensure_mark s t c) c (add_edge n0 t)) n m ≡ runs_in (entries s n) (outs (with_cell (ensure_mark s t c) c (add_edge n0 t)) m) n m
discovered-runs s t c n0 n m =
    let p = ensure_mark s t c in
    let q = with_cell p c (add_edge n0 t) in
    ap (λ (es : List Entry). runs_in es (outs q m) n m) (same_cell (record { names = []; nodes = [] }) p c (add_edge n0 t) (λ x. refl) n) ∙ ensured-runs_in s t c n m (outs q m)

-- What reacts after the edge is added reacted before, or it is the node of the edge, and the edge's run covers the call.
abbrev pub NewRun : Core → ℕ → ℕ → ℕ → ℕ → ℕ → ℕ → Type 0
NewRun q t c n0 u m n = (n ≡ n0) × (m ≡ c) × (covers q m u (new_run t) ≡ true)

discovered-reacts : (graph : Graph) (s : Core) → IsLawful graph s → (t n0 c : ℕ) → heads s t n0 ≡ true → is_prior s t n0 c ≡ false → (u m n : ℕ) → opens s u m ≡ true
    → reacts graph (with_cell (ensure_mark s t c) c (add_edge n0 t)) u m n ≡ true → (reacts graph s u m n ≡ true) ⊎ NewRun (with_cell (ensure_mark s t c) c (add_edge n0 t)) t c n0 u m n
discovered-reacts graph s h t n0 c hd not_prior u m n o k = either (or_cases _ _ k)
  where
    p : Core
    p = ensure_mark s t c

    q : Core
    q = with_cell p c (add_edge n0 t)

    -- a run that covers the call covered it
    back : list_any (covers q m u) (runs s n m) ≡ true → reacts graph s u m n ≡ true
    back a = or_right _ _ (any-map (covers q m u) (covers s m u) (runs s n m) (λ i r e x. ensured-covers graph s h t c u m n o i r e (same_lists-covers p q m u (same_cell graph p c (add_edge n0 t) (λ y. refl) m) (λ z j l. l) r x)) a)

    edge : m ≡ c → outs q m ≡ with_out (outs s m) n0 t → list_any (covers q m u) (runs_in (entries s n) (outs q m) n m) ≡ true → (reacts graph s u m n ≡ true) ⊎ NewRun q t c n0 u m n
    edge j g a = cases (cases_Bool (n == n0)) (subst (λ (os : List OutEdge). list_any (covers q m u) (runs_in (entries s n) os n m) ≡ true) g a)
      where
        none : n ≡ n0 → last_run_of s n m ≡ None
        none x = not_picked-none s n m (subst (λ (w : ℕ). picks_last s w m ≡ false) (sym x) (subst (λ (w : ℕ). picks_last s n0 w ≡ false) (sym j) (sym (head-prior graph s h t n0 c hd) ∙ not_prior)))

        cases : ((n == n0) ≡ true) ⊎ ((n == n0) ≡ false) → list_any (covers q m u) (runs_in (entries s n) (with_out (outs s m) n0 t) n m) ≡ true → (reacts graph s u m n ≡ true) ⊎ NewRun q t c n0 u m n
        cases (inr x) y = inl (back (subst (λ (rs : List Run). list_any (covers q m u) rs ≡ true) (same-edges (entries s n) (outs s m) (with_out (outs s m) n0 t) n m (added-node n0 n t (outs s m) x) (λ z. added-out n0 n t z (outs s m) x)) y))
        cases (inl x) y = two (added-any (covers q m u) (entries s n) (outs s m) n0 n m t x (subst (λ (w : ℕ). first_open (entries s w) ≡ Some t) (sym (eqb-true n n0 x)) (head-first (entries s n0) t hd)) (none (eqb-true n n0 x)) y)
          where
            two : (list_any (covers q m u) (runs_in (entries s n) (outs s m) n m) ≡ true) ⊎ (covers q m u (new_run t) ≡ true) → (reacts graph s u m n ≡ true) ⊎ NewRun q t c n0 u m n
            two (inl z) = inl (back z)
            two (inr z) = inr (eqb-true n n0 x, j, z)

    by_run : (cell q m ≡ cell p m) ⊎ ((m ≡ c) × (cell q m ≡ add_edge n0 t (cell p m))) → list_any (covers q m u) (runs_in (entries s n) (outs q m) n m) ≡ true → (reacts graph s u m n ≡ true) ⊎ NewRun q t c n0 u m n
    by_run (inl e) a = inl (back (subst (λ (os : List OutEdge). list_any (covers q m u) (runs_in (entries s n) os n m) ≡ true) (ap (λ (x : Cell). x.outs) e ∙ ensured-edges s t c m) a))
    by_run (inr e) a = edge e.0 (ap (λ (x : Cell). x.outs) e.1 ∙ ap (λ (os : List OutEdge). with_out os n0 t) (ensured-edges s t c m)) a

    either : (is_in n (static_outs graph m) ≡ true) ⊎ (list_any (covers q m u) (runs q n m) ≡ true) → (reacts graph s u m n ≡ true) ⊎ NewRun q t c n0 u m n
    either (inl a) = inl (or_left _ _ a)
    either (inr a) = by_run (with_cell-cell p c (add_edge n0 t) m) (subst (λ (rs : List Run). list_any (covers q m u) rs ≡ true) (discovered-runs s t c n0 n m) a)

pub discover-not_prior : (graph : Graph) (s : Core) (t n c : ℕ) → allowed graph s (steps.Discover t n c) ≡ true → is_prior s t n c ≡ false
discover-not_prior graph s t n c a = not-true _ (and_right _ _ (and_left _ _ (and_left _ _ a)))

pub discovered-spread : (graph : Graph) (s : Core) (t n0 c : ℕ) → IsLawful graph s → allowed graph s (steps.Discover t n0 c) ≡ true → FramesSpread graph (apply graph s (steps.Discover t n0 c))
discovered-spread graph s t n0 c h a u m n k r = go (discovered-reacts graph s h t n0 c head not_prior u m n o (tell-reacts r))
  where
    p : Core
    p = ensure_mark s t c

    q : Core
    q = with_cell p c (add_edge n0 t)

    after : Core
    after = apply graph s (steps.Discover t n0 c)

    head : heads s t n0 ≡ true
    head = at_front-heads graph s t n0 (can_work-at_front graph s t n0 (due-can_work graph s t n0 (discover-due graph s t n0 c a)))

    not_prior : is_prior s t n0 c ≡ false
    not_prior = discover-not_prior graph s t n0 c a

    opens-mid : (j : ℕ) → opens q u j ≡ opens s u j
    opens-mid j = ensured (λ x. is_in j x.open_nodes) s t c u

    opens-same : (j : ℕ) → opens after u j ≡ opens q u j
    opens-same j = map_call-keeps (λ x. is_in j x.open_nodes) q (tell_call (entries q c) t n0) (λ x. refl) (λ x. refl) u

    o : opens s u m ≡ true
    o = sym (opens-mid m) ∙ sym (opens-same m) ∙ (step-FramesAreOpen graph s (steps.Discover t n0 c) h a).opens_frames u m ∙ k

    tell-reacts : reacts graph after u m n ≡ true → reacts graph q u m n ≡ true
    tell-reacts x = same_lists-reacts graph q after (λ j. refl) (λ j. refl) (λ j z y l. subst (λ (f : ℕ → Bool). f z ≡ true) (map_call-live q (tell_call (entries q c) t n0) (λ w. refl)) l) u m n x

    -- open or wanted before
    still : (opens s u n || wants s u n) ≡ true → (opens after u n || wants after u n) ≡ true
    still x = cases (or_cases _ _ x)
      where
        cases : (opens s u n ≡ true) ⊎ (wants s u n ≡ true) → (opens after u n || wants after u n) ≡ true
        cases (inl y) = or_left _ _ (opens-same n ∙ opens-mid n ∙ y)
        cases (inr y) = or_right _ _ (tell-keeps q c t n0 u n (ensured (λ w. is_in n w.wanted) s t c u ∙ y))

    -- the run that the edge begins covers the call: the call is the discoverer, or stands behind it and is told
    told : m ≡ c → covers q m u (new_run t) ≡ true → (opens after u n0 || wants after u n0) ≡ true
    told j x = cases (cases_Bool (u == t))
      where
        parts : Covers q c u (new_run t)
        parts = covers-parts q c u (new_run t) (subst (λ (w : ℕ). covers q w u (new_run t) ≡ true) j x)

        lists : entries q c ≡ entries p c
        lists = same_cell graph p c (add_edge n0 t) (λ y. refl) c

        frame : at is_frame (entries s c) u ≡ true
        frame = subst (λ (w : ℕ). at is_frame (entries s w) u ≡ true) j (opens-frame graph s h u m o)

        entry : has (entries q c) t ≡ true
        entry = ap (λ (es : List Entry). has es t) lists ∙ ensured-has s t c u (at-has is_frame (entries s c) u frame)

        up : has (up_to (entries q c) u) t ≡ true
        up = let y = parts.from in let z : (not (has (entries q c) t) || has (up_to (entries q c) u) t) ≡ true = y in take (has (entries q c) t) (has (up_to (entries q c) u) t) z entry
          where
            take : (a b : Bool) → (not a || b) ≡ true → a ≡ true → b ≡ true
            take a b x y = grind (arith, x, y)

        cases : ((u == t) ≡ true) ⊎ ((u == t) ≡ false) → (opens after u n0 || wants after u n0) ≡ true
        cases (inl y) = or_left _ _ (opens-same n0 ∙ opens-mid n0 ∙ subst (λ (v : ℕ). opens s v n0 ≡ true) (sym (eqb-true u t y)) (heads-opens graph s h t n0 head))
        cases (inr y) =
            let b = active-behind (entries q c) t u entry parts.has_it up y in
            let f : at is_frame (entries q c) u ≡ true = subst (λ (w : ℕ). at is_frame (entries q w) u ≡ true) j k in
            ap (λ (z : Bool). z || wants after u n0) (opens-same n0) ∙ tell-tells q c t n0 u (ensured-live s t c u ∙ opens-live s u m o) b f

    go : (reacts graph s u m n ≡ true) ⊎ NewRun q t c n0 u m n → (opens after u n || wants after u n) ≡ true
    go (inl x) = still (h.frames_spread u m n (opens-frame graph s h u m o) x)
    go (inr x) = subst (λ (w : ℕ). (opens after u w || wants after u w) ≡ true) (sym x.0) (told x.1 x.2)
