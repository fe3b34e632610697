-- Where a call has changed a node, all that reacts is framed for it or wanted by it, after each step.
-- The cases are Frame, Skip, Resolve and Discover.
use Rattle.std.proofs.Common.{◌≡◌, ℕ, ◌<◌, Bool, true, false, ◌&&◌, ◌||◌, not, ◌==◌, ◌⊎◌, inl, inr, refl, sym, ap, arith, List, length, true≢false, ◌∙◌, subst, Option, Some, None}
use Rattle.std.proofs.lemmas.Bool.{or_cases, or_left, or_right, eqb-true, eq-eqb, both_ways, cases_Bool}
use Rattle.std.specs.Prelude.{is_some}
use Rattle.script_tree.specs.declared.value.Value.{Value}
use Rattle.signal_graph.specs.Graph.{Graph, is_in}
use Rattle.node_versions.specs.declared.entry.State.{State}
use Rattle.node_versions.specs.declared.entry.State.TheVariants.{Mark, Frame, Done}
use Rattle.node_versions.specs.declared.entry.Entry.{Entry}
use Rattle.node_versions.specs.Entries.{has, at, is_mark, is_done, changed_of, behind, up_to, value_before, picks_before}
use Rattle.node_versions.proofs.Places.{at_implies, at-has}
use Rattle.flow_model.specs.declared.step.Step.{Step}
use Rattle.flow_model.specs.declared.step.Step.TheVariants as steps
use Rattle.flow_model.specs.Machine.Sets.{put}
use Rattle.flow_model.specs.Machine.State.{Core, LiveCall, Cell, call_of, call_or, cell, live, entries, opens, wants, changes, with_call, with_cell}
use Rattle.flow_model.specs.Machine.Words.{active_outs, at_front, heads, is_prior, value_now, found_picks}
use Rattle.flow_model.specs.Machine.Changes.{stops_call, new_entry, place_entry, set_state, enter, raise, ensure_mark, opened, closed, finish, cleared, add_edge, hands_on, is_told, tell_call, tell}
use Rattle.flow_model.specs.Machine.Steps.{allowed, apply, open_node, frame, is_change}
use Rattle.flow_model.specs.Kept.Runs.{covers, reacts, framed}
use Rattle.flow_model.specs.Kept.Lawful.{IsLawful, ChangesSpread}
use Rattle.flow_model.proofs.OneStep.WhoMayStep.{frame-wants, wants-live, executes-live, at_front-executes, at_front-heads, can_work-at_front, due-can_work, discover-due}
use Rattle.flow_model.proofs.General.Sets.{in-put}
use Rattle.flow_model.proofs.OneList.OneEntryACall.{placed-at_other}
use Rattle.flow_model.proofs.OneList.CallsAndCells.{with_call-field, with_call-keeps, map_call-live, map_call-keeps, map_call-reads, option_call}
use Rattle.flow_model.proofs.OneList.Entering.{with_cell-cell}
use Rattle.flow_model.proofs.OneStep.ChangesOfOneList.{same_cell}
use Rattle.flow_model.proofs.OrderStays.OpenNodesHaveFrames.{opened-opens, step-FramesAreOpen}
use Rattle.flow_model.proofs.OrderStays.AfterEachStep.{wanted-fresh}
use Rattle.flow_model.proofs.OneStep.SameCallers.{ensured}
use Rattle.flow_model.proofs.Wants.FramedWith.{opens-frame, heads-opens}
use Rattle.flow_model.proofs.OneList.ActiveEdges.{active-behind}
use Rattle.flow_model.proofs.Wants.WantsAreFree.{opened-wants, call_of-version, told-wants, ensured-live}
use Rattle.flow_model.proofs.Reactions.WhoReacts.{Covers, covers-parts}
use Rattle.flow_model.proofs.FramesSpread.AfterOtherSteps.{same_lists-reacts, call-reacts, worked-reacts}
use Rattle.flow_model.proofs.FramesSpread.AfterDiscover.{new_run, NewRun, ensured-has, discover-not_prior, tell-keeps}
use Rattle.flow_model.proofs.FramesSpread.AfterDones.{IsFinishing, stated-reacts, skip-finishing, resolve-finishing}
use Rattle.flow_model.proofs.FramesSpread.NewFrames.{framed-back}
use Rattle.flow_model.proofs.FramesSpread.AfterFrame.{raised-framed, entered-framed}
use Rattle.flow_model.proofs.Reactions.WhoReactsAfterSteps.{discovered-reacts_at}
use Rattle.flow_model.proofs.ChangesSpread.AfterOtherSteps.{changes-live, changes-done, changes-entry, frame-framed, framed-stays, Reacted, step-changes, kept-changes, started-changes, gathered-changes, evaluated-changes, body-changes, marked-changes, looked-changes, dropped-changes, ended-changes, collected-changes}

-- ---- a node that is open after a step is framed

opens-framed : (graph : Graph) (s : Core) (step : Step) → IsLawful graph s → allowed graph s step ≡ true → (u n : ℕ) → (opens (apply graph s step) u n || wants (apply graph s step) u n) ≡ true → (framed (apply graph s step) u n || wants (apply graph s step) u n) ≡ true
opens-framed graph s step h a u n k = go (or_cases _ _ k)
  where
    q : Core
    q = apply graph s step

    go : (opens q u n ≡ true) ⊎ (wants q u n ≡ true) → (framed q u n || wants q u n) ≡ true
    go (inl o) = or_left _ _ (frame-framed q u n (sym ((step-FramesAreOpen graph s step h a).opens_frames u n) ∙ o))
    go (inr w) = or_right _ _ w

-- ---- Frame

-- What the call wants but for the node, it wants on.
framed-wants : (q : Core) (t m0 : ℕ) (xs : List ℕ) (u n : ℕ) → live q t ≡ true → wants q u n ≡ true → (opens (with_call q t (opened m0 xs)) u n || wants (with_call q t (opened m0 xs)) u n) ≡ true
framed-wants q t m0 xs u n l w =
    let o = opened-opens q t m0 xs u n l in
    let v = opened-wants q t m0 xs u n l in
    let e = λ (x : (u == t) ≡ true). ap (λ (j : ℕ). wants q j n) (eqb-true u t x) in
    keeps (u == t) (n == m0) (opens q u n) (wants q u n) (wants q t n) (is_in n xs && not ((n == m0) || opens q t n)) _ _ o v e w
  where
    keeps : (x e o w wt a o2 w2 : Bool) → o2 ≡ (o || (x && e)) → w2 ≡ elim x as (λ _. Bool) [ true ↦ a || (wt && not e) | false ↦ w ] → (x ≡ true → w ≡ wt) → w ≡ true → (o2 || w2) ≡ true
    keeps true true o w wt a o2 w2 h k i j = grind (arith, h)
    keeps true false o w wt a o2 w2 h k i j = let z = i refl in grind (arith, k, z, j)
    keeps false e o w wt a o2 w2 h k i j = grind (arith, k, j)

framed-changes : (graph : Graph) (s : Core) (t m0 : ℕ) → IsLawful graph s → allowed graph s (steps.Frame t m0) ≡ true → ChangesSpread graph (apply graph s (steps.Frame t m0))
framed-changes graph s t m0 h a = step-changes graph s (steps.Frame t m0) h a (λ u n l w. opens-framed graph s (steps.Frame t m0) h a u n (still u n w))
    (λ u m n c r. let d = sym (same u m) ∙ c in inl (d, back u m n d r))
  where
    wanted : wants s t m0 ≡ true
    wanted = frame-wants graph s t m0 a

    lt : live s t ≡ true
    lt = wants-live s t m0 wanted

    there : m0 < length s.cells
    there = let e = h.lists in let f = (h.wants_are_free t m0 wanted).node in omega (arith, e, f)

    still : (u n : ℕ) → wants s u n ≡ true → (opens (frame graph s t m0) u n || wants (frame graph s t m0) u n) ≡ true
    still u n w = go (at is_mark (entries s m0) t)
      where
        go : (b : Bool) → (opens (elim b as (λ _. Core) [ true ↦ open_node graph (raise s t m0) t m0 | false ↦ open_node graph (enter s t m0 Frame) t m0 ]) u n || wants (elim b as (λ _. Core) [ true ↦ open_node graph (raise s t m0) t m0 | false ↦ open_node graph (enter s t m0 Frame) t m0 ]) u n) ≡ true
        go true = framed-wants (raise s t m0) t m0 (active_outs graph (raise s t m0) t m0) u n lt w
        go false = framed-wants (enter s t m0 Frame) t m0 (active_outs graph (enter s t m0 Frame) t m0) u n lt w

    same : (u m : ℕ) → changes (frame graph s t m0) u m ≡ changes s u m
    same u m = go (at is_mark (entries s m0) t)
      where
        go : (b : Bool) → changes (elim b as (λ _. Core) [ true ↦ open_node graph (raise s t m0) t m0 | false ↦ open_node graph (enter s t m0 Frame) t m0 ]) u m ≡ changes s u m
        go true = with_call-keeps (λ x. is_in m x.changed) (raise s t m0) t (opened m0 (active_outs graph (raise s t m0) t m0)) (λ x. refl) (λ x. refl) u
        go false = with_call-keeps (λ x. is_in m x.changed) (enter s t m0 Frame) t (opened m0 (active_outs graph (enter s t m0 Frame) t m0)) (λ x. refl) (λ x. refl) u

    -- the call has no Done at the node that it frames
    apart : (u m : ℕ) → changes s u m ≡ true → ((t == u) ≡ false) ⊎ ((m == m0) ≡ false)
    apart u m c = cases (cases_Bool (t == u)) (cases_Bool (m == m0))
      where
        done_of : (x : State) → changed_of x ≡ true → is_done x ≡ true
        done_of Mark k = absurd (true≢false (sym k))
        done_of Frame k = absurd (true≢false (sym k))
        done_of (Done v b ps) k = refl

        cases : ((t == u) ≡ true) ⊎ ((t == u) ≡ false) → ((m == m0) ≡ true) ⊎ ((m == m0) ≡ false) → ((t == u) ≡ false) ⊎ ((m == m0) ≡ false)
        cases (inr x) y = inl x
        cases (inl x) (inr y) = inr y
        cases (inl x) (inl y) =
            let d : at is_done (entries s m) u ≡ true = at_implies changed_of is_done done_of (entries s m) u (changes-done graph s h u m c) in
            absurd (both_ways _ (h.wants_are_free t m0 wanted).not_done (subst (λ (w : ℕ). at is_done (entries s w) t ≡ true) (eqb-true m m0 y) (subst (λ (w : ℕ). at is_done (entries s m) w ≡ true) (sym (eqb-true t u x)) d)))

    back : (u m n : ℕ) → changes s u m ≡ true → reacts graph (frame graph s t m0) u m n ≡ true → reacts graph s u m n ≡ true
    back u m n c r = go (at is_mark (entries s m0) t) refl r
      where
        go : (b : Bool) → at is_mark (entries s m0) t ≡ b → reacts graph (elim b as (λ _. Core) [ true ↦ open_node graph (raise s t m0) t m0 | false ↦ open_node graph (enter s t m0 Frame) t m0 ]) u m n ≡ true → reacts graph s u m n ≡ true
        go true e k = framed-back graph s h (raise s t m0) t m0 wanted (raised-framed graph s h t m0 wanted e there) u m n (apart u m c) (call-reacts graph (raise s t m0) t (opened m0 (active_outs graph (raise s t m0) t m0)) (λ x. refl) u m n k)
        go false e k = framed-back graph s h (enter s t m0 Frame) t m0 wanted (entered-framed graph s h t m0 wanted (wanted-fresh graph s h t m0 wanted e) there) u m n (apart u m c) (call-reacts graph (enter s t m0 Frame) t (opened m0 (active_outs graph (enter s t m0 Frame) t m0)) (λ x. refl) u m n k)

-- ---- Skip and Resolve

skipped-changes : (graph : Graph) (s : Core) (t n0 : ℕ) → IsLawful graph s → allowed graph s (steps.Skip t n0) ≡ true → ChangesSpread graph (apply graph s (steps.Skip t n0))
skipped-changes graph s t n0 h a =
    let v = value_before (entries s n0) t in
    let ps = picks_before (entries s n0) t in
    let q = with_cell s n0 (set_state t (Done v false ps)) in
    kept-changes graph s (steps.Skip t n0) h a (λ u n l. with_call-keeps (λ x. is_in n x.wanted) q t (closed n0 false) (λ x. refl) (λ x. refl) u) (λ u m l. with_call-keeps (λ x. is_in m x.changed) q t (closed n0 false) (λ x. refl) (λ x. refl) u)
    (λ u m n l e k. stated-reacts graph s h t n0 v false ps (skip-finishing graph s h t n0 a) u m n (call-reacts graph q t (closed n0 false) (λ x. refl) u m n k))

-- A call has changed at most one node more, the one that it closes.
closed-changes : (q : Core) (t n0 : ℕ) (b : Bool) (u m : ℕ) → live q t ≡ true → changes (with_call q t (closed n0 b)) u m ≡ true → (changes q u m ≡ true) ⊎ ((u ≡ t) × (m ≡ n0))
closed-changes q t n0 b u m lt k = go (cases_Bool (u == t)) (with_call-field (λ c. is_in m c.changed) q t (closed n0 b) (λ c. refl) u lt)
  where
    new : (b : Bool) (xs : List ℕ) → is_in m (elim b as (λ _. List ℕ) [ true ↦ put n0 xs | false ↦ xs ]) ≡ true → (is_in m xs ≡ true) ⊎ ((m == n0) ≡ true)
    new false xs x = inl x
    new true xs x = turned (or_cases _ _ (sym (in-put m n0 xs) ∙ x))
      where
        turned : ((m == n0) ≡ true) ⊎ (is_in m xs ≡ true) → (is_in m xs ≡ true) ⊎ ((m == n0) ≡ true)
        turned (inl y) = inr y
        turned (inr y) = inl y

    go : ((u == t) ≡ true) ⊎ ((u == t) ≡ false) → changes (with_call q t (closed n0 b)) u m ≡ elim (u == t) as (λ _. Bool) [ true ↦ is_in m (elim b as (λ _. List ℕ) [ true ↦ put n0 (call_or (call_of q.calls t)).changed | false ↦ (call_or (call_of q.calls t)).changed ]) | false ↦ changes q u m ]
        → (changes q u m ≡ true) ⊎ ((u ≡ t) × (m ≡ n0))
    go (inr x) e = inl (sym (rw x at e) ∙ k)
    go (inl x) e = cases (new b (call_or (call_of q.calls t)).changed (sym (rw x at e) ∙ k))
      where
        cases : (changes q t m ≡ true) ⊎ ((m == n0) ≡ true) → (changes q u m ≡ true) ⊎ ((u ≡ t) × (m ≡ n0))
        cases (inl y) = inl (subst (λ (v : ℕ). changes q v m ≡ true) (sym (eqb-true u t x)) y)
        cases (inr y) = inr (eqb-true u t x, eqb-true m n0 y)

resolved-changes : (graph : Graph) (s : Core) (t n0 : ℕ) → IsLawful graph s → allowed graph s (steps.Resolve t n0) ≡ true → ChangesSpread graph (apply graph s (steps.Resolve t n0))
resolved-changes graph s t n0 h a = step-changes graph s (steps.Resolve t n0) h a (λ u n l w. or_right _ _ (wants-same u n ∙ w)) (λ u m n c r. go u m n (closed-changes q t n0 b u m lt c) (back u m n r))
  where
    v : Value
    v = value_now graph s t n0

    b : Bool
    b = is_change graph s t n0

    ps : List (Option ℕ)
    ps = found_picks s n0

    q : Core
    q = with_cell s n0 (set_state t (Done v b ps))

    after : Core
    after = apply graph s (steps.Resolve t n0)

    fin : IsFinishing graph s t n0 ps
    fin = resolve-finishing graph s h t n0 a

    lt : live s t ≡ true
    lt = executes-live s t (at_front-executes graph s t n0 fin.front)

    wants-same : (u n : ℕ) → wants after u n ≡ wants s u n
    wants-same u n = with_call-keeps (λ x. is_in n x.wanted) q t (closed n0 b) (λ x. refl) (λ x. refl) u

    back : (u m n : ℕ) → reacts graph after u m n ≡ true → reacts graph s u m n ≡ true
    back u m n r = stated-reacts graph s h t n0 v b ps fin u m n (call-reacts graph q t (closed n0 b) (λ x. refl) u m n (worked-reacts graph (finish s t n0 v b ps) n0 cleared (λ x. refl) (λ x. refl) u m n r))

    -- what reacts to the node was open for the call or wanted by it
    spread : (n : ℕ) → reacts graph s t n0 n ≡ true → (framed after t n || wants after t n) ≡ true
    spread n r = cases (or_cases _ _ (h.frames_spread t n0 n (opens-frame graph s h t n0 (heads-opens graph s h t n0 (at_front-heads graph s t n0 fin.front))) r))
      where
        cases : (opens s t n ≡ true) ⊎ (wants s t n ≡ true) → (framed after t n || wants after t n) ≡ true
        cases (inl o) = or_left _ _ (framed-stays graph s (steps.Resolve t n0) h a t n lt (frame-framed s t n (opens-frame graph s h t n o)))
        cases (inr w) = or_right _ _ (wants-same t n ∙ w)

    go : (u m n : ℕ) → (changes s u m ≡ true) ⊎ ((u ≡ t) × (m ≡ n0)) → reacts graph s u m n ≡ true → Reacted graph s after u m n
    go u m n (inl c) r = inl (c, r)
    go u m n (inr e) r = inr (subst (λ (w : ℕ). (framed after w n || wants after w n) ≡ true) (sym e.0) (spread n (subst (λ (w : ℕ). reacts graph s t w n ≡ true) e.1 (subst (λ (w : ℕ). reacts graph s w m n ≡ true) e.0 r))))

-- ---- Discover

-- A call that hands on what it does behind the teller's entry has the node open, or wants it from now on.
tell-reaches : (s : Core) (c t n u : ℕ) → live s u ≡ true → behind (entries s c) t u ≡ true → at hands_on (entries s c) u ≡ true → (opens s u n || wants (tell s t n c) u n) ≡ true
tell-reaches s c t n u l b f = ap (λ (x : Bool). opens s u n || x) (ap (λ (o : Option LiveCall). is_in n (call_or o).wanted) (map_call-reads (tell_call (entries s c) t n) (λ x. refl) s.calls u)) ∙ go (call_of s.calls u) refl l
  where
    told : (x : LiveCall) → x.version ≡ u → (is_in n x.open_nodes || is_in n (tell_call (entries s c) t n x).wanted) ≡ true
    told x v =
        let b2 = subst (λ (w : ℕ). behind (entries s c) t w ≡ true) (sym v) b in
        let f2 = subst (λ (w : ℕ). at hands_on (entries s c) w ≡ true) (sym v) f in
        let w = told-wants (is_told (entries s c) t n x) n n x.wanted in
        let e = eq-eqb n n refl in
        join (is_in n x.open_nodes) (is_in n x.wanted) (behind (entries s c) t x.version) (at hands_on (entries s c) x.version) (n == n) _ b2 f2 e w
      where
        join : (o w b f e r : Bool) → b ≡ true → f ≡ true → e ≡ true → r ≡ (w || (e && (b && f && not o))) → (o || r) ≡ true
        join true w b f e r x y z k = refl
        join false w b f e r x y z k = grind (arith, x, y, z, k)

    go : (o : Option LiveCall) → call_of s.calls u ≡ o → is_some o ≡ true → (is_in n (call_or o).open_nodes || is_in n (call_or (option_call (tell_call (entries s c) t n) o)).wanted) ≡ true
    go None e k = absurd (true≢false (sym k))
    go (Some x) e k = told x (call_of-version s.calls u x e)

-- A Mark more leaves the states of the entries that are there.
ensured-at : (test : State → Bool) (s : Core) (t c u : ℕ) → at test (entries s c) u ≡ true → at test (entries (ensure_mark s t c) c) u ≡ true
ensured-at test s t c u k = go (has (entries s c) t) refl
  where
    entered : has (entries s c) t ≡ false → (cell (enter s t c Mark) c ≡ cell s c) ⊎ ((c ≡ c) × (cell (enter s t c Mark) c ≡ place_entry s t Mark (cell s c))) → at test (entries (enter s t c Mark) c) u ≡ true
    entered fresh (inl e) = ap (λ (x : Cell). at test x.entries u) e ∙ k
    entered fresh (inr e) = ap (λ (x : Cell). at test x.entries u) e.1 ∙ placed-at_other test (stops_call s t) (new_entry s t Mark) (entries s c) u (λ z. both_ways _ fresh (subst (λ (v : ℕ). has (entries s c) v ≡ true) z (at-has test (entries s c) u k))) ∙ k

    go : (b : Bool) → has (entries s c) t ≡ b → at test (entries (elim b as (λ _. Core) [ true ↦ s | false ↦ enter s t c Mark ]) c) u ≡ true
    go true e = k
    go false e = entered e (with_cell-cell s c (place_entry s t Mark) c)

discovered-changes : (graph : Graph) (s : Core) (t n0 c : ℕ) → IsLawful graph s → allowed graph s (steps.Discover t n0 c) ≡ true → ChangesSpread graph (apply graph s (steps.Discover t n0 c))
discovered-changes graph s t n0 c h a = step-changes graph s (steps.Discover t n0 c) h a (λ u n l w. or_right _ _ (tell-keeps q c t n0 u n (ensured (λ x. is_in n x.wanted) s t c u ∙ w)))
    (λ u m n k r. let d = sym (changes-same u m) ∙ k in go u m n d (discovered-reacts_at graph s h t n0 c head not_prior u m n (changes-entry graph s h u m d) (tell-reacts u m n r)))
  where
    p : Core
    p = ensure_mark s t c

    q : Core
    q = with_cell p c (add_edge n0 t)

    after : Core
    after = apply graph s (steps.Discover t n0 c)

    front : at_front graph s t n0 ≡ true
    front = can_work-at_front graph s t n0 (due-can_work graph s t n0 (discover-due graph s t n0 c a))

    head : heads s t n0 ≡ true
    head = at_front-heads graph s t n0 front

    not_prior : is_prior s t n0 c ≡ false
    not_prior = discover-not_prior graph s t n0 c a

    changes-same : (u m : ℕ) → changes after u m ≡ changes s u m
    changes-same u m = map_call-keeps (λ x. is_in m x.changed) q (tell_call (entries q c) t n0) (λ x. refl) (λ x. refl) u ∙ ensured (λ x. is_in m x.changed) s t c u

    opens-same : (u j : ℕ) → opens after u j ≡ opens q u j
    opens-same u j = map_call-keeps (λ x. is_in j x.open_nodes) q (tell_call (entries q c) t n0) (λ x. refl) (λ x. refl) u

    tell-reacts : (u m n : ℕ) → reacts graph after u m n ≡ true → reacts graph q u m n ≡ true
    tell-reacts u m n x = same_lists-reacts graph q after (λ j. refl) (λ j. refl) (λ j z y l. subst (λ (f : ℕ → Bool). f z ≡ true) (map_call-live q (tell_call (entries q c) t n0) (λ w. refl)) l) u m n x

    -- the run that the edge begins covers the call: the call is the discoverer, or stands behind it and is told
    told : (u : ℕ) → changes s u c ≡ true → covers q c u (new_run t) ≡ true → (framed after u n0 || wants after u n0) ≡ true
    told u d x = cases (cases_Bool (u == t))
      where
        parts : Covers q c u (new_run t)
        parts = covers-parts q c u (new_run t) x

        lists : entries q c ≡ entries p c
        lists = same_cell graph p c (add_edge n0 t) (λ y. refl) c

        entry : has (entries q c) t ≡ true
        entry = ap (λ (es : List Entry). has es t) lists ∙ ensured-has s t c u (changes-entry graph s h u c d)

        up : has (up_to (entries q c) u) t ≡ true
        up = let y = parts.from in let z : (not (has (entries q c) t) || has (up_to (entries q c) u) t) ≡ true = y in take (has (entries q c) t) (has (up_to (entries q c) u) t) z entry
          where
            take : (a b : Bool) → (not a || b) ≡ true → a ≡ true → b ≡ true
            take a b x y = grind (arith, x, y)

        cases : ((u == t) ≡ true) ⊎ ((u == t) ≡ false) → (framed after u n0 || wants after u n0) ≡ true
        cases (inl y) = or_left _ _ (subst (λ (v : ℕ). framed after v n0 ≡ true) (sym (eqb-true u t y))
            (framed-stays graph s (steps.Discover t n0 c) h a t n0 (executes-live s t (at_front-executes graph s t n0 front)) (frame-framed s t n0 (opens-frame graph s h t n0 (heads-opens graph s h t n0 head)))))
        cases (inr y) =
            let b = active-behind (entries q c) t u entry parts.has_it up y in
            let f : at hands_on (entries q c) u ≡ true = ap (λ (es : List Entry). at hands_on es u) lists ∙ at_implies changed_of hands_on (λ z k. or_right _ _ k) (entries p c) u (ensured-at changed_of s t c u (changes-done graph s h u c d)) in
            opens-framed graph s (steps.Discover t n0 c) h a u n0 (ap (λ (z : Bool). z || wants after u n0) (opens-same u n0) ∙ tell-reaches q c t n0 u (ensured-live s t c u ∙ changes-live s u c d) b f)

    go : (u m n : ℕ) → changes s u m ≡ true → (reacts graph s u m n ≡ true) ⊎ NewRun q t c n0 u m n → Reacted graph s after u m n
    go u m n d (inl x) = inl (d, x)
    go u m n d (inr x) = inr (subst (λ (w : ℕ). (framed after u w || wants after u w) ≡ true) (sym x.0) (told u (subst (λ (w : ℕ). changes s u w ≡ true) x.1 d) (subst (λ (w : ℕ). covers q w u (new_run t) ≡ true) x.1 x.2)))

-- ---- each step

pub step-ChangesSpread : (graph : Graph) (s : Core) (step : Step) → IsLawful graph s → allowed graph s step ≡ true → ChangesSpread graph (apply graph s step)
step-ChangesSpread graph s (steps.Frame t n) h a = framed-changes graph s t n h a
step-ChangesSpread graph s (steps.Start t) h a = started-changes graph s t h a
step-ChangesSpread graph s (steps.Skip t n) h a = skipped-changes graph s t n h a
step-ChangesSpread graph s (steps.Gather t n m) h a = gathered-changes graph s t n m h a
step-ChangesSpread graph s (steps.Evaluate t n) h a = evaluated-changes graph s t n h a
step-ChangesSpread graph s (steps.Body t n) h a = body-changes graph s t n h a
step-ChangesSpread graph s (steps.Resolve t n) h a = resolved-changes graph s t n h a
step-ChangesSpread graph s (steps.Discover t n c) h a = discovered-changes graph s t n c h a
step-ChangesSpread graph s (steps.Drop t n o) h a = dropped-changes graph s t n o h a
step-ChangesSpread graph s (steps.Mark t m) h a = marked-changes graph s t m h a
step-ChangesSpread graph s (steps.Look t) h a = looked-changes graph s t h a
step-ChangesSpread graph s (steps.End t) h a = ended-changes graph s t h a
step-ChangesSpread graph s (steps.Collect n) h a = collected-changes graph s n h a
