-- After a step runs begin and end at the calls where they did before, or at calls that have an entry at the candidate.
use Rattle.std.proofs.Common.{◌≡◌, ℕ, ◌<◌, length, Bool, true, false, not, ◌==◌, ◌⊎◌, inl, inr, refl, sym, ap, arith, List, [], ◌∷◌, true≢false, ◌∙◌, subst, Option, Some, None}
use Rattle.std.proofs.lemmas.Bool.{or_left, or_right, eqb-true, eq-eqb, cases_Bool}
use Rattle.std.specs.Prelude.{slice_get}
use Rattle.std.specs.List.{list_any}
use Rattle.script_tree.specs.declared.value.Value.{Value}
use Rattle.signal_graph.specs.Graph.{Graph}
use Rattle.node_versions.specs.declared.entry.State.TheVariants.{Mark, Frame, Done}
use Rattle.node_versions.specs.declared.entry.Entry.{Entry}
use Rattle.node_versions.specs.Entries.{OutEdge, has, first_open, with_state, has_node, with_out, picks_before, value_before}
use Rattle.flow_model.specs.declared.step.Step.{Step}
use Rattle.flow_model.specs.declared.step.Step.TheVariants as steps
use Rattle.flow_model.specs.Machine.State.{Core, Cell, live, entries, outs}
use Rattle.flow_model.specs.Machine.Words.{heads, found_picks, value_now}
use Rattle.flow_model.specs.Machine.Changes.{stops_call, new_entry, place_entry, set_state, enter, raise, ensure_mark, add_edge, drop_edge, remove_first}
use Rattle.flow_model.specs.Machine.Steps.{allowed, apply, is_change}
use Rattle.flow_model.specs.Kept.Runs.{Run, runs}
use Rattle.flow_model.specs.Kept.Lawful.{IsLawful, picks_last, last_run_of}
use Rattle.flow_model.proofs.OneStep.WhoMayStep.{discover-due, due-can_work, can_work-at_front, at_front-heads}
use Rattle.flow_model.proofs.OneList.OneEntryACall.{placed-has}
use Rattle.flow_model.proofs.OneStep.ChangesOfOneList.{same_cell}
use Rattle.flow_model.proofs.OrderStays.NoFrameBeforeDones.{head-first}
use Rattle.flow_model.proofs.OneStep.SameLengths.{step-parts}
use Rattle.flow_model.proofs.OrderStays.OpenNodesHaveFrames.{cell-there}
use Rattle.flow_model.proofs.OneStep.WhoLivesAndFrames.{step-phases}
use Rattle.flow_model.proofs.OneStep.SameCallers.{phase-live}
use Rattle.flow_model.proofs.Reactions.WhoReacts.{runs_in, marked-runs, same-edges}
use Rattle.flow_model.proofs.FramesSpread.AfterOtherSteps.{removed-any}
use Rattle.flow_model.proofs.FramesSpread.AfterDiscover.{head-prior, not_picked-none, added-node, added-out, new_run, added-any, ensured-runs_in, discovered-runs, discover-not_prior}
use Rattle.flow_model.proofs.FramesSpread.NewFrames.{framed-any}
use Rattle.flow_model.proofs.FramesSpread.AfterFrame.{raised-framed, entered-framed}
use Rattle.flow_model.proofs.FramesSpread.AfterCollect.{Earlier, collected-any}
use Rattle.flow_model.proofs.FramesSpread.AfterDones.{IsFinishing, finished-any, skip-finishing, resolve-finishing}
use Rattle.flow_model.proofs.OneStep.QuietSteps.{QuietStep, stays, marks, frames, raises, collects, finishes, step-quiet, skipped-list, resolved-list, edges, step-outs}
use Rattle.flow_model.proofs.OneStep.FirstOpenCalls.{ended-prefix, no-ended_frame, step-entry}
use Rattle.flow_model.proofs.General.AnyAndAll.{is-some}
use Rattle.flow_model.proofs.Work.OnlyLaterCallsOpen.{begins_at, ends_at, taken-any, lawful-begins, lawful-ends}
use Rattle.flow_model.proofs.Lengths.EdgesAreWork.{dropped-outs, drop-edge, drop-heads, discovered-outs}
use Rattle.flow_model.proofs.Edges.WhereRunsEnd.{Leaves, dropped-ends, finished-ends, skip-leaves, resolve-leaves}
use Rattle.flow_model.proofs.Settled.AfterDrop.{edge-there}

-- ---- a step that finishes at no node

-- What a test takes of the runs after the step, it takes of those before.
quiet-any : (graph : Graph) (s : Core) → IsLawful graph s → (n m : ℕ) (test : Run → Bool) → Earlier test (λ v. not (live s v)) → (es : List Entry) → QuietStep graph s n es → list_any test (runs_in es (outs s m) n m) ≡ true → list_any test (runs_in (entries s n) (outs s m) n m) ≡ true
quiet-any graph s h n m test earlier es (stays e) k = subst (λ (xs : List Entry). list_any test (runs_in xs (outs s m) n m) ≡ true) e k
quiet-any graph s h n m test earlier es (marks t x f e) k = subst (λ (rs : List Run). list_any test rs ≡ true) (ap (λ (xs : List Entry). runs_in xs (outs s m) n m) e ∙ marked-runs (stops_call s t) (new_entry s t Mark) (entries s n) (outs s m) n m refl) k
quiet-any graph s h n m test earlier es (frames t w f e) k =
    let there : n < length s.cells = let l = h.lists in let g = (h.wants_are_free t n w).node in omega (arith, l, g) in
    framed-any graph s h (enter s t n Frame) t n w (entered-framed graph s h t n w f there) m test
    (subst (λ (xs : List Entry). list_any test (runs_in xs (outs s m) n m) ≡ true) (e ∙ sym (ap (λ (c : Cell). c.entries) (cell-there s n (place_entry s t Frame) there))) k)
quiet-any graph s h n m test earlier es (raises t w f e) k =
    let there : n < length s.cells = let l = h.lists in let g = (h.wants_are_free t n w).node in omega (arith, l, g) in
    framed-any graph s h (raise s t n) t n w (raised-framed graph s h t n w f there) m test
    (subst (λ (xs : List Entry). list_any test (runs_in xs (outs s m) n m) ≡ true) (e ∙ sym (ap (λ (c : Cell). c.entries) (cell-there s n (set_state t Frame) there))) k)
quiet-any graph s h n m test earlier es (collects e) k = collected-any test (λ v. not (live s v)) earlier (entries s n) (outs s m) n m (h.one_entry n) (ended-prefix graph s h n) (no-ended_frame graph s h n)
    (subst (λ (xs : List Entry). list_any test (runs_in xs (outs s m) n m) ≡ true) e k)

begins-earlier : (p : ℕ → Bool) (b : ℕ) → Earlier (begins_at b) p
begins-earlier p b v z d k = absurd (true≢false (sym k))

ends-earlier : (p : ℕ → Bool) (z : ℕ) → Earlier (ends_at z) p
ends-earlier p z v y d k = k

begins-longer : (b : ℕ) (r : Run) (z : Option ℕ) → begins_at b (record r { ends = z }) ≡ true → begins_at b (record r { ends = None }) ≡ true
begins-longer b r z k = k

-- ---- the cells that are there

-- The call has its Mark there, if the node is there.
ensured-entry : (s : Core) (t c : ℕ) → c < length s.cells → has (entries (ensure_mark s t c) c) t ≡ true
ensured-entry s t c there = go (has (entries s c) t) refl
  where
    go : (b : Bool) → has (entries s c) t ≡ b → has (entries (elim b as (λ _. Core) [ true ↦ s | false ↦ enter s t c Mark ]) c) t ≡ true
    go true e = e
    go false e = ap (λ (x : Cell). has x.entries t) (cell-there s c (place_entry s t Mark) there) ∙ placed-has (stops_call s t) (new_entry s t Mark) (entries s c) t ∙ or_left _ _ (eq-eqb t t refl)

-- ---- Discover and Drop

discovered-back : (graph : Graph) (s : Core) → IsLawful graph s → (t n0 c : ℕ) → allowed graph s (steps.Discover t n0 c) ≡ true → (n m : ℕ) (test : Run → Bool) → list_any test (runs (apply graph s (steps.Discover t n0 c)) n m) ≡ true
    → (list_any test (runs s n m) ≡ true) ⊎ ((test (new_run t) ≡ true) × (has (entries (apply graph s (steps.Discover t n0 c)) m) t ≡ true))
discovered-back graph s h t n0 c a n m test k = go (discovered-outs graph s t n0 c m) (cases_Bool (n == n0)) (subst (λ (rs : List Run). list_any test rs ≡ true) (discovered-runs s t c n0 n m) k)
  where
    p : Core
    p = ensure_mark s t c

    q : Core
    q = apply graph s (steps.Discover t n0 c)

    hd : heads s t n0 ≡ true
    hd = at_front-heads graph s t n0 (can_work-at_front graph s t n0 (due-can_work graph s t n0 (discover-due graph s t n0 c a)))

    none : n ≡ n0 → m ≡ c → last_run_of s n m ≡ None
    none x j = not_picked-none s n m (subst (λ (w : ℕ). picks_last s w m ≡ false) (sym x) (subst (λ (w : ℕ). picks_last s n0 w ≡ false) (sym j) (sym (head-prior graph s h t n0 c hd) ∙ discover-not_prior graph s t n0 c a)))

    entered : m ≡ c → outs q m ≡ with_out (outs s m) n0 t → has (entries q m) t ≡ true
    entered j e =
        let there : m < length q.cells = edge-there q m n0 (ap (λ (os : List OutEdge). has_node os n0) e ∙ new-node (outs s m)) in
        let before : m < length s.cells = subst (λ (w : ℕ). m < w) (step-parts graph s (steps.Discover t n0 c)).cells there in
        ap (λ (es : List Entry). has es t) (same_cell graph p c (add_edge n0 t) (λ x. refl) m) ∙ subst (λ (w : ℕ). has (entries p w) t ≡ true) (sym j) (ensured-entry s t c (subst (λ (w : ℕ). w < length s.cells) j before))
      where
        new-node : (os : List OutEdge) → has_node (with_out os n0 t) n0 ≡ true
        new-node [] = or_left _ _ (eq-eqb n0 n0 refl)
        new-node (edge ∷ os) = or_right _ _ (new-node os)

    go : (outs q m ≡ outs s m) ⊎ ((m ≡ c) × (outs q m ≡ with_out (outs s m) n0 t)) → ((n == n0) ≡ true) ⊎ ((n == n0) ≡ false) → list_any test (runs_in (entries s n) (outs q m) n m) ≡ true → (list_any test (runs s n m) ≡ true) ⊎ ((test (new_run t) ≡ true) × (has (entries q m) t ≡ true))
    go (inl e) y r = inl (subst (λ (os : List OutEdge). list_any test (runs_in (entries s n) os n m) ≡ true) e r)
    go (inr e) (inr ne) r = inl (subst (λ (rs : List Run). list_any test rs ≡ true) (same-edges (entries s n) (outs s m) (with_out (outs s m) n0 t) n m (added-node n0 n t (outs s m) ne) (λ z. added-out n0 n t z (outs s m) ne)) (subst (λ (os : List OutEdge). list_any test (runs_in (entries s n) os n m) ≡ true) e.1 r))
    go (inr e) (inl y) r = two (added-any test (entries s n) (outs s m) n0 n m t y (subst (λ (w : ℕ). first_open (entries s w) ≡ Some t) (sym (eqb-true n n0 y)) (head-first (entries s n0) t hd)) (none (eqb-true n n0 y) e.0) (subst (λ (os : List OutEdge). list_any test (runs_in (entries s n) os n m) ≡ true) e.1 r))
      where
        two : (list_any test (runs_in (entries s n) (outs s m) n m) ≡ true) ⊎ (test (new_run t) ≡ true) → (list_any test (runs s n m) ≡ true) ⊎ ((test (new_run t) ≡ true) × (has (entries q m) t ≡ true))
        two (inl z) = inl z
        two (inr z) = inr (z, entered e.0 e.1)

-- the runs after an edge is dropped, by the list before and the edges after
dropped-runs : (graph : Graph) (s : Core) (t n0 o n m : ℕ) → runs (apply graph s (steps.Drop t n0 o)) n m ≡ runs_in (entries s n) (outs (apply graph s (steps.Drop t n0 o)) m) n m
dropped-runs graph s t n0 o n m =
    let p = ensure_mark s t o in
    let q = apply graph s (steps.Drop t n0 o) in
    ap (λ (es : List Entry). runs_in es (outs q m) n m) (same_cell graph p o (drop_edge n0) (λ x. refl) n) ∙ ensured-runs_in s t o n m (outs q m)

dropped-begins : (graph : Graph) (s : Core) (t n0 o : ℕ) → allowed graph s (steps.Drop t n0 o) ≡ true → (n m b : ℕ) → list_any (begins_at b) (runs (apply graph s (steps.Drop t n0 o)) n m) ≡ true → list_any (begins_at b) (runs s n m) ≡ true
dropped-begins graph s t n0 o a n m b k = go (dropped-outs graph s t n0 o m) (subst (λ (rs : List Run). list_any (begins_at b) rs ≡ true) (dropped-runs graph s t n0 o n m) k)
  where
    q : Core
    q = apply graph s (steps.Drop t n0 o)

    go : (outs q m ≡ outs s m) ⊎ ((m ≡ o) × (outs q m ≡ remove_first n0 (outs s m))) → list_any (begins_at b) (runs_in (entries s n) (outs q m) n m) ≡ true → list_any (begins_at b) (runs s n m) ≡ true
    go (inl e) r = subst (λ (os : List OutEdge). list_any (begins_at b) (runs_in (entries s n) os n m) ≡ true) e r
    go (inr e) r = removed-any (begins_at b) (begins-longer b) (entries s n) (outs s m) n0 n m (subst (λ (w : ℕ). has_node (outs s w) n0 ≡ true) (sym e.0) (drop-edge graph s t n0 o a)) (subst (λ (os : List OutEdge). list_any (begins_at b) (runs_in (entries s n) os n m) ≡ true) e.1 r)

dropped-ended : (graph : Graph) (s : Core) (t n0 o : ℕ) → allowed graph s (steps.Drop t n0 o) ≡ true → (n m z : ℕ) → list_any (ends_at z) (runs (apply graph s (steps.Drop t n0 o)) n m) ≡ true → (list_any (ends_at z) (runs s n m) ≡ true) ⊎ (has (entries (apply graph s (steps.Drop t n0 o)) m) z ≡ true)
dropped-ended graph s t n0 o a n m z k = go (dropped-outs graph s t n0 o m) (subst (λ (rs : List Run). list_any (ends_at z) rs ≡ true) (dropped-runs graph s t n0 o n m) k)
  where
    p : Core
    p = ensure_mark s t o

    q : Core
    q = apply graph s (steps.Drop t n0 o)

    entered : has (entries q o) t ≡ true
    entered = ap (λ (es : List Entry). has es t) (same_cell graph p o (drop_edge n0) (λ x. refl) o) ∙ ensured-entry s t o (edge-there s o n0 (drop-edge graph s t n0 o a))

    go : (outs q m ≡ outs s m) ⊎ ((m ≡ o) × (outs q m ≡ remove_first n0 (outs s m))) → list_any (ends_at z) (runs_in (entries s n) (outs q m) n m) ≡ true → (list_any (ends_at z) (runs s n m) ≡ true) ⊎ (has (entries q m) z ≡ true)
    go (inl e) r = inl (subst (λ (os : List OutEdge). list_any (ends_at z) (runs_in (entries s n) os n m) ≡ true) e r)
    go (inr e) r = two (dropped-ends z (entries s n) (outs s m) n0 n m t (λ x. subst (λ (w : ℕ). first_open (entries s w) ≡ Some t) (sym x) (head-first (entries s n0) t (drop-heads graph s t n0 o a))) (subst (λ (os : List OutEdge). list_any (ends_at z) (runs_in (entries s n) os n m) ≡ true) e.1 r))
      where
        two : (list_any (ends_at z) (runs_in (entries s n) (outs s m) n m) ≡ true) ⊎ ((n ≡ n0) × (z ≡ t)) → (list_any (ends_at z) (runs s n m) ≡ true) ⊎ (has (entries q m) z ≡ true)
        two (inl x) = inl x
        two (inr x) = inr (subst (λ (w : ℕ). has (entries q w) z ≡ true) (sym e.0) (subst (λ (w : ℕ). has (entries q o) w ≡ true) (sym x.1) entered))

-- ---- the steps

-- the runs after a call has finished at a node
finished-begins : (graph : Graph) (s : Core) → IsLawful graph s → (q : Core) (t n0 : ℕ) (v : Value) (c : Bool) (ps : List (Option ℕ)) → IsFinishing graph s t n0 ps → ((m : ℕ) → outs q m ≡ outs s m)
    → ((n : ℕ) → (entries q n ≡ entries s n) ⊎ ((n ≡ n0) × (entries q n ≡ with_state t (Done v c ps) (entries s n)))) → (n m b : ℕ) → list_any (begins_at b) (runs q n m) ≡ true → list_any (begins_at b) (runs s n m) ≡ true
finished-begins graph s h q t n0 v c ps fin same lists n m b k = go (lists n) (subst (λ (os : List OutEdge). list_any (begins_at b) (runs_in (entries q n) os n m) ≡ true) (same m) k)
  where
    go : (entries q n ≡ entries s n) ⊎ ((n ≡ n0) × (entries q n ≡ with_state t (Done v c ps) (entries s n))) → list_any (begins_at b) (runs_in (entries q n) (outs s m) n m) ≡ true → list_any (begins_at b) (runs s n m) ≡ true
    go (inl e) r = subst (λ (es : List Entry). list_any (begins_at b) (runs_in es (outs s m) n m) ≡ true) e r
    go (inr e) r = finished-any graph s h t n v c ps (subst (λ (w : ℕ). IsFinishing graph s t w ps) (sym e.0) fin) m (begins_at b) (begins-longer b) (subst (λ (es : List Entry). list_any (begins_at b) (runs_in es (outs s m) n m) ≡ true) e.1 r)

finished-ended : (graph : Graph) (s : Core) → IsLawful graph s → (q : Core) (t n0 : ℕ) (v : Value) (c : Bool) (ps : List (Option ℕ)) → IsFinishing graph s t n0 ps → Leaves s n0 ps → ((m : ℕ) → outs q m ≡ outs s m)
    → ((n : ℕ) → (entries q n ≡ entries s n) ⊎ ((n ≡ n0) × (entries q n ≡ with_state t (Done v c ps) (entries s n)))) → (n m z : ℕ) → list_any (ends_at z) (runs q n m) ≡ true → list_any (ends_at z) (runs s n m) ≡ true
finished-ended graph s h q t n0 v c ps fin leaves same lists n m z k = go (lists n) (subst (λ (os : List OutEdge). list_any (ends_at z) (runs_in (entries q n) os n m) ≡ true) (same m) k)
  where
    go : (entries q n ≡ entries s n) ⊎ ((n ≡ n0) × (entries q n ≡ with_state t (Done v c ps) (entries s n))) → list_any (ends_at z) (runs_in (entries q n) (outs s m) n m) ≡ true → list_any (ends_at z) (runs s n m) ≡ true
    go (inl e) r = subst (λ (es : List Entry). list_any (ends_at z) (runs_in es (outs s m) n m) ≡ true) e r
    go (inr e) r = finished-ends graph s h t n v c ps (subst (λ (w : ℕ). IsFinishing graph s t w ps) (sym e.0) fin) (subst (λ (w : ℕ). Leaves s w ps) (sym e.0) leaves) m z (subst (λ (es : List Entry). list_any (ends_at z) (runs_in es (outs s m) n m) ≡ true) e.1 r)

-- A step that changes no out-edge and finishes nowhere.
plain-runs : (graph : Graph) (s : Core) (step : Step) → IsLawful graph s → allowed graph s step ≡ true → finishes step ≡ false → edges step ≡ false → (n m : ℕ) (test : Run → Bool) → Earlier test (λ v. not (live s v)) → list_any test (runs (apply graph s step) n m) ≡ true → list_any test (runs s n m) ≡ true
plain-runs graph s step h a f g n m test earlier k = quiet-any graph s h n m test earlier (entries (apply graph s step) n) (step-quiet graph s step h a f n) (subst (λ (os : List OutEdge). list_any test (runs_in (entries (apply graph s step) n) os n m) ≡ true) (step-outs graph s step g m) k)

-- The call at which a run begins has an entry at the candidate.
abbrev Begun : Graph → Core → Step → ℕ → ℕ → ℕ → Type 0
Begun graph s step n m b = (list_any (begins_at b) (runs s n m) ≡ true) ⊎ (has (entries (apply graph s step) m) b ≡ true)

abbrev Ended : Graph → Core → Step → ℕ → ℕ → ℕ → Type 0
Ended graph s step n m z = (list_any (ends_at z) (runs s n m) ≡ true) ⊎ (has (entries (apply graph s step) m) z ≡ true)

plain-begun : (graph : Graph) (s : Core) (step : Step) → IsLawful graph s → allowed graph s step ≡ true → finishes step ≡ false → edges step ≡ false → (n m b : ℕ) → list_any (begins_at b) (runs (apply graph s step) n m) ≡ true → Begun graph s step n m b
plain-begun graph s step h a f g n m b k = inl (plain-runs graph s step h a f g n m (begins_at b) (begins-earlier (λ v. not (live s v)) b) k)

plain-ended : (graph : Graph) (s : Core) (step : Step) → IsLawful graph s → allowed graph s step ≡ true → finishes step ≡ false → edges step ≡ false → (n m z : ℕ) → list_any (ends_at z) (runs (apply graph s step) n m) ≡ true → Ended graph s step n m z
plain-ended graph s step h a f g n m z k = inl (plain-runs graph s step h a f g n m (ends_at z) (ends-earlier (λ v. not (live s v)) z) k)

step-begun : (graph : Graph) (s : Core) (step : Step) → IsLawful graph s → allowed graph s step ≡ true → (n m b : ℕ) → list_any (begins_at b) (runs (apply graph s step) n m) ≡ true → Begun graph s step n m b
step-begun graph s (steps.Frame t n0) h a n m b k = plain-begun graph s (steps.Frame t n0) h a refl refl n m b k
step-begun graph s (steps.Start t) h a n m b k = plain-begun graph s (steps.Start t) h a refl refl n m b k
step-begun graph s (steps.Skip t n0) h a n m b k = inl (finished-begins graph s h (apply graph s (steps.Skip t n0)) t n0 (value_before (entries s n0) t) false (picks_before (entries s n0) t) (skip-finishing graph s h t n0 a) (step-outs graph s (steps.Skip t n0) refl) (skipped-list graph s t n0) n m b k)
step-begun graph s (steps.Gather t n0 i) h a n m b k = plain-begun graph s (steps.Gather t n0 i) h a refl refl n m b k
step-begun graph s (steps.Evaluate t n0) h a n m b k = plain-begun graph s (steps.Evaluate t n0) h a refl refl n m b k
step-begun graph s (steps.Body t n0) h a n m b k = plain-begun graph s (steps.Body t n0) h a refl refl n m b k
step-begun graph s (steps.Resolve t n0) h a n m b k = inl (finished-begins graph s h (apply graph s (steps.Resolve t n0)) t n0 (value_now graph s t n0) (is_change graph s t n0) (found_picks s n0) (resolve-finishing graph s h t n0 a) (step-outs graph s (steps.Resolve t n0) refl) (resolved-list graph s t n0) n m b k)
step-begun graph s (steps.Discover t n0 c) h a n m b k = go (discovered-back graph s h t n0 c a n m (begins_at b) k)
  where
    go : (list_any (begins_at b) (runs s n m) ≡ true) ⊎ (((t == b) ≡ true) × (has (entries (apply graph s (steps.Discover t n0 c)) m) t ≡ true)) → Begun graph s (steps.Discover t n0 c) n m b
    go (inl x) = inl x
    go (inr x) = inr (subst (λ (w : ℕ). has (entries (apply graph s (steps.Discover t n0 c)) m) w ≡ true) (eqb-true t b x.0) x.1)
step-begun graph s (steps.Drop t n0 o) h a n m b k = inl (dropped-begins graph s t n0 o a n m b k)
step-begun graph s (steps.Mark t n0) h a n m b k = plain-begun graph s (steps.Mark t n0) h a refl refl n m b k
step-begun graph s (steps.Look t) h a n m b k = plain-begun graph s (steps.Look t) h a refl refl n m b k
step-begun graph s (steps.End t) h a n m b k = plain-begun graph s (steps.End t) h a refl refl n m b k
step-begun graph s (steps.Collect n0) h a n m b k = plain-begun graph s (steps.Collect n0) h a refl refl n m b k

step-ended : (graph : Graph) (s : Core) (step : Step) → IsLawful graph s → allowed graph s step ≡ true → (n m z : ℕ) → list_any (ends_at z) (runs (apply graph s step) n m) ≡ true → Ended graph s step n m z
step-ended graph s (steps.Frame t n0) h a n m z k = plain-ended graph s (steps.Frame t n0) h a refl refl n m z k
step-ended graph s (steps.Start t) h a n m z k = plain-ended graph s (steps.Start t) h a refl refl n m z k
step-ended graph s (steps.Skip t n0) h a n m z k = inl (finished-ended graph s h (apply graph s (steps.Skip t n0)) t n0 (value_before (entries s n0) t) false (picks_before (entries s n0) t) (skip-finishing graph s h t n0 a) (skip-leaves graph s h t n0 a) (step-outs graph s (steps.Skip t n0) refl) (skipped-list graph s t n0) n m z k)
step-ended graph s (steps.Gather t n0 i) h a n m z k = plain-ended graph s (steps.Gather t n0 i) h a refl refl n m z k
step-ended graph s (steps.Evaluate t n0) h a n m z k = plain-ended graph s (steps.Evaluate t n0) h a refl refl n m z k
step-ended graph s (steps.Body t n0) h a n m z k = plain-ended graph s (steps.Body t n0) h a refl refl n m z k
step-ended graph s (steps.Resolve t n0) h a n m z k = inl (finished-ended graph s h (apply graph s (steps.Resolve t n0)) t n0 (value_now graph s t n0) (is_change graph s t n0) (found_picks s n0) (resolve-finishing graph s h t n0 a) (resolve-leaves graph s h t n0 a) (step-outs graph s (steps.Resolve t n0) refl) (resolved-list graph s t n0) n m z k)
step-ended graph s (steps.Discover t n0 c) h a n m z k = go (discovered-back graph s h t n0 c a n m (ends_at z) k)
  where
    go : (list_any (ends_at z) (runs s n m) ≡ true) ⊎ ((false ≡ true) × (has (entries (apply graph s (steps.Discover t n0 c)) m) t ≡ true)) → Ended graph s (steps.Discover t n0 c) n m z
    go (inl x) = inl x
    go (inr x) = absurd (true≢false (sym x.0))
step-ended graph s (steps.Drop t n0 o) h a n m z k = dropped-ended graph s t n0 o a n m z k
step-ended graph s (steps.Mark t n0) h a n m z k = plain-ended graph s (steps.Mark t n0) h a refl refl n m z k
step-ended graph s (steps.Look t) h a n m z k = plain-ended graph s (steps.Look t) h a refl refl n m z k
step-ended graph s (steps.End t) h a n m z k = plain-ended graph s (steps.End t) h a refl refl n m z k
step-ended graph s (steps.Collect n0) h a n m z k = plain-ended graph s (steps.Collect n0) h a refl refl n m z k

pub step-begins_entered : (graph : Graph) (s : Core) (step : Step) → IsLawful graph s → allowed graph s step ≡ true → (n m i : ℕ) (r : Run) (b : ℕ) → slice_get (runs (apply graph s step) n m) i ≡ Some r → r.begins ≡ Some b → live (apply graph s step) b ≡ true → has (entries (apply graph s step) m) b ≡ true
step-begins_entered graph s step h a n m i r b e j l = go (step-begun graph s step h a n m b (taken-any (begins_at b) (runs (apply graph s step) n m) i r e (is-some r.begins b j)))
  where
    was : live s b ≡ true
    was = phase-live s (apply graph s step) (step-phases graph s step a) b l

    go : Begun graph s step n m b → has (entries (apply graph s step) m) b ≡ true
    go (inl k) = step-entry graph s step h a m b was (lawful-begins graph s h n m b k was)
    go (inr k) = k

pub step-ends_entered : (graph : Graph) (s : Core) (step : Step) → IsLawful graph s → allowed graph s step ≡ true → (n m i : ℕ) (r : Run) (z : ℕ) → slice_get (runs (apply graph s step) n m) i ≡ Some r → r.ends ≡ Some z → live (apply graph s step) z ≡ true → has (entries (apply graph s step) m) z ≡ true
step-ends_entered graph s step h a n m i r z e j l = go (step-ended graph s step h a n m z (taken-any (ends_at z) (runs (apply graph s step) n m) i r e (is-some r.ends z j)))
  where
    was : live s z ≡ true
    was = phase-live s (apply graph s step) (step-phases graph s step a) z l

    go : Ended graph s step n m z → has (entries (apply graph s step) m) z ≡ true
    go (inl k) = step-entry graph s step h a m z was (lawful-ends graph s h n m z k was)
    go (inr k) = k
