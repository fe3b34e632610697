-- After each step out-edges stand at the picks of last Dones and at what first open calls have discovered.
-- The first are keyed by the calls at which the runs begin.
use Rattle.std.proofs.Common.{◌≡◌, ℕ, ◌+◌, ◌<◌, ◌≤◌, length, Bool, true, false, ◌||◌, not, ◌==◌, ◌⊎◌, inl, inr, refl, sym, ap, arith, List, [], ◌∷◌, true≢false, ◌∙◌, subst, Option, Some, None}
use Rattle.std.proofs.lemmas.Bool.{or_left, or_right, and_from, eqb-true, eq-eqb, false_from_ne_true, both_ways, cases_Bool}
use Rattle.std.specs.Prelude.{is_some}
use Rattle.script_tree.specs.declared.value.Value.{Value}
use Rattle.signal_graph.specs.Graph.{Graph, is_in}
use Rattle.signal_graph.specs.Values.{nodes_in}
use Rattle.node_versions.specs.declared.entry.State.TheVariants.{Mark, Frame, Done}
use Rattle.node_versions.specs.declared.entry.Entry.{Entry}
use Rattle.node_versions.specs.Entries.{OutEdge, at, is_frame, last_done, first_open, with_state, state_of, picks_of, picks_before, value_before, has_out, has_node, with_out}
use Rattle.flow_model.specs.declared.step.Step.{Step}
use Rattle.flow_model.specs.declared.step.Step.TheVariants as steps
use Rattle.flow_model.specs.Machine.State.{Core, Cell, Found, cell, live, executes, entries, outs}
use Rattle.flow_model.specs.Machine.Words.{heads, is_some_of, is_candidate, is_found, picks_of_found, found_picks, value_now}
use Rattle.flow_model.specs.Machine.Changes.{stops_call, new_entry, place_entry, set_state, remove_first, cleared, finish}
use Rattle.flow_model.specs.Machine.Steps.{allowed, apply, is_change}
use Rattle.flow_model.specs.Kept.Runs.{Run, Reading, go_on, read_all, nothing_read}
use Rattle.flow_model.specs.Kept.Lawful.{IsLawful, IsKey, IsKeyOf, IsRunEdge, IsNewEdge, SomeHead, EdgesAreKept, picks_last, last_run_of, count_edges}
use Rattle.flow_model.proofs.OneStep.WhoMayStep.{skip-can_work, resolve-can_work, can_work-at_front, at_front-heads, discover-due, due-can_work}
use Rattle.flow_model.proofs.OneStep.WhoLivesAndFrames.{step-phases, phase-ended}
use Rattle.flow_model.proofs.OrderStays.OpenNodesHaveFrames.{cell-there, cell-other}
use Rattle.flow_model.proofs.Wants.FramedWith.{out-node}
use Rattle.flow_model.proofs.Reactions.WhereRunsBegin.{seen-all}
use Rattle.flow_model.proofs.Reactions.RunsThatHaveEnded.{finished-reading, done-not_fresh}
use Rattle.flow_model.proofs.Reactions.WhoReacts.{marked-reading}
use Rattle.flow_model.proofs.FramesSpread.AfterOtherSteps.{removed-less}
use Rattle.flow_model.proofs.FramesSpread.AfterDiscover.{head-prior, discover-not_prior}
use Rattle.flow_model.proofs.FramesSpread.AfterFrame.{raised-framed, entered-framed}
use Rattle.flow_model.proofs.FramesSpread.AfterCollect.{BothRuns, neither, each, Earlier, collected-alike}
use Rattle.flow_model.proofs.FramesSpread.AfterDones.{heads-same, found-touched, skip-untouched}
use Rattle.flow_model.proofs.Edges.EdgesFitCandidates.{added-out, discover-candidate, discover-no_edge}
use Rattle.flow_model.proofs.OneStep.QuietSteps.{QuietStep, stays, marks, frames, raises, collects, finishes, step-quiet, edges, step-outs}
use Rattle.flow_model.proofs.OneStep.FirstOpenCalls.{head-live, head-there, ended-prefix, quiet-last_done, quiet-head}
use Rattle.flow_model.proofs.General.AnyAndAll.{is-some}
use Rattle.flow_model.proofs.Work.FoundStays.{step-found}
use Rattle.flow_model.proofs.Edges.DroppedAndDiscovered.{finished-picks, candidate-found, same-picks}
use Rattle.flow_model.proofs.Lengths.EdgesAreWork.{dropped-outs, discovered-outs}
use Rattle.flow_model.proofs.Work.AfterEachStep.{step-WorkIsKept}
use Rattle.flow_model.proofs.Edges.WhereRunsEnd.{resolve-released}
use Rattle.flow_model.proofs.Edges.RunsHaveEntries.{step-begins_entered, step-ends_entered}
use Rattle.flow_model.proofs.Lengths.WorthFalls.{skip-list, resolve-list}

-- ---- keys

-- whether a call is the key of a run that begins there
abbrev key_at : Core → ℕ → Option ℕ → Bool
key_at s since None = not (live s since)
key_at s since (Some b) = since == b

key-test : (s : Core) (since : ℕ) (o : Option ℕ) → IsKey s since o → key_at s since o ≡ true
key-test s since None k = ap not k
key-test s since (Some b) k = eq-eqb since b k

test-key : (s : Core) (since : ℕ) (o : Option ℕ) → key_at s since o ≡ true → IsKey s since o
test-key s since None k = turned (live s since) k
  where
    turned : (a : Bool) → not a ≡ true → a ≡ false
    turned true k = sym k
    turned false k = refl
test-key s since (Some b) k = eqb-true since b k

abbrev lost : Core → ℕ → Run → Bool
lost s since r = not (key_at s since r.begins)

-- A call that isn't the key of a run without a first call lives, and so isn't one at which a run begins that has ended.
lost-earlier : (s : Core) (since : ℕ) → Earlier (lost s since) (λ v. not (live s v))
lost-earlier s since b z d k = apart (since == b) refl
  where
    apart : (x : Bool) → (since == b) ≡ x → not x ≡ true
    apart false e = refl
    apart true e = let w = eqb-true since b e in absurd (both (live s since) k (subst (λ (v : ℕ). not (live s v) ≡ true) (sym w) d))
      where
        both : (a : Bool) → not (not a) ≡ true → not a ≡ true → ⊥
        both true h j = true≢false (sym j)
        both false h j = true≢false (sym h)

-- Of two runs alike, the first one's key is the second one's.
alike-key : (s : Core) (since : ℕ) (a b : Option Run) → BothRuns (lost s since) a b → IsKeyOf s since a → IsKeyOf s since b
alike-key s since _ _ neither k = k
alike-key s since _ _ (each a b f) k = test-key s since b.begins (kept (key_at s since a.begins) (key_at s since b.begins) (key-test s since a.begins k) (f None))
  where
    kept : (x y : Bool) → x ≡ true → (not y ≡ true → not x ≡ true) → y ≡ true
    kept x true h g = refl
    kept x false h g = absurd (true≢false (sym (sym (ap not h) ∙ g refl)))

-- The key of the run in which a list ends is its key after a step that finishes at no node.
quiet-key : (graph : Graph) (s : Core) → IsLawful graph s → (n m since : ℕ) (es : List Entry) → QuietStep graph s n es → IsKeyOf s since (last_run_of s n m) → IsKeyOf s since (read_all m es nothing_read).current
quiet-key graph s h n m since es (stays e) k = subst (λ (xs : List Entry). IsKeyOf s since (read_all m xs nothing_read).current) (sym e) k
quiet-key graph s h n m since es (marks t x f e) k = subst (λ (q : Reading). IsKeyOf s since q.current) (sym (ap (λ (xs : List Entry). read_all m xs nothing_read) e ∙ marked-reading (stops_call s t) m (new_entry s t Mark) (entries s n) nothing_read refl)) k
quiet-key graph s h n m since es (frames t w f e) k =
    let there : n < length s.cells = let l = h.lists in let g = (h.wants_are_free t n w).node in omega (arith, l, g) in
    subst (λ (q : Reading). IsKeyOf s since q.current) (sym (ap (λ (xs : List Entry). read_all m xs nothing_read) (e ∙ sym (ap (λ (c : Cell). c.entries) (cell-there s n (place_entry s t Frame) there))) ∙ (entered-framed graph s h t n w f there).reading m)) k
quiet-key graph s h n m since es (raises t w f e) k =
    let there : n < length s.cells = let l = h.lists in let g = (h.wants_are_free t n w).node in omega (arith, l, g) in
    subst (λ (q : Reading). IsKeyOf s since q.current) (sym (ap (λ (xs : List Entry). read_all m xs nothing_read) (e ∙ sym (ap (λ (c : Cell). c.entries) (cell-there s n (set_state t Frame) there))) ∙ (raised-framed graph s h t n w f there).reading m)) k
quiet-key graph s h n m since es (collects e) k =
    let a = collected-alike (lost s since) (λ v. not (live s v)) (lost-earlier s since) m (entries s n) (h.one_entry n) (ended-prefix graph s h n) in
    subst (λ (xs : List Entry). IsKeyOf s since (read_all m xs nothing_read).current) (sym e) (alike-key s since _ _ a.current k)

-- A key is one after a call has ended.
phase-key : (s q : Core) → ((v : ℕ) → live s v ≡ false → live q v ≡ false) → (since : ℕ) (c : Option Run) → IsKeyOf s since c → IsKeyOf q since c
phase-key s q f since None k = k
phase-key s q f since (Some r) k = go r.begins k
  where
    go : (o : Option ℕ) → IsKey s since o → IsKey q since o
    go None x = f since x
    go (Some b) x = x

-- ---- edges that stood

-- An edge stands on where the picks, the key, the first open call and its candidates stay.
edge-from : (s q : Core) (n m since : ℕ) → picks_last q n m ≡ picks_last s n m → (IsKeyOf s since (last_run_of s n m) → IsKeyOf q since (last_run_of q n m)) → (heads s since n ≡ true → is_candidate s n m ≡ true → (heads q since n ≡ true) × (is_candidate q n m ≡ true))
    → IsRunEdge s n m since ⊎ IsNewEdge s n m since → IsRunEdge q n m since ⊎ IsNewEdge q n m since
edge-from s q n m since p key new (inl e) = inl (record { picked = p ∙ e.picked; key = key e.key })
edge-from s q n m since p key new (inr e) = let f = new e.first_open e.found in inr (record { not_picked = p ∙ e.not_picked; first_open = f.0; found = f.1 })

same-candidate : (s q : Core) (n m : ℕ) → (cell q n).found ≡ (cell s n).found → is_candidate s n m ≡ true → is_candidate q n m ≡ true
same-candidate s q n m e k = ap (λ (o : Option Found). is_in m (nodes_in (picks_of_found o))) e ∙ k

-- A first open call that has found something executes.
finder-executes : (graph : Graph) (s : Core) → IsLawful graph s → (u n : ℕ) → heads s u n ≡ true → is_found s n ≡ true → executes s u ≡ true
finder-executes graph s h u n hd f = let w = h.work_is_kept.finds n f in subst (λ (v : ℕ). executes s v ≡ true) (heads-same s u w.head n hd w.first) w.holds.executing

old-stands : (graph : Graph) (s : Core) (step : Step) → IsLawful graph s → allowed graph s step ≡ true → finishes step ≡ false → (n m since : ℕ) → has_out (outs s m) n since ≡ true → IsRunEdge (apply graph s step) n m since ⊎ IsNewEdge (apply graph s step) n m since
old-stands graph s step h a f n m since e = edge-from s q n m since (same-picks s q n m (quiet-last_done graph s h n (entries q n) l))
    (λ k. phase-key s q (λ v x. phase-ended s q (step-phases graph s step a) v x) since (last_run_of q n m) (quiet-key graph s h n m since (entries q n) l k))
    (λ hd k. let found = candidate-found s n m k in (is-some _ since (quiet-head graph s h n (entries q n) l since (finder-executes graph s h since n hd found) hd), same-candidate s q n m (step-found graph s step a f n found) k))
    (h.edges_are_kept.stands n m since e)
  where
    q : Core
    q = apply graph s step

    l : QuietStep graph s n (entries q n)
    l = step-quiet graph s step h a f n

-- ---- a call that finishes

skipped-there : (graph : Graph) (s : Core) (t n0 n : ℕ) → (n == n0) ≡ false → cell (apply graph s (steps.Skip t n0)) n ≡ cell s n
skipped-there graph s t n0 n ne = cell-other s n0 n (set_state t (Done (value_before (entries s n0) t) false (picks_before (entries s n0) t))) ne

resolved-there : (graph : Graph) (s : Core) (t n0 n : ℕ) → (n == n0) ≡ false → cell (apply graph s (steps.Resolve t n0)) n ≡ cell s n
resolved-there graph s t n0 n ne = cell-other (finish s t n0 (value_now graph s t n0) (is_change graph s t n0) (found_picks s n0)) n0 n cleared ne ∙ cell-other s n0 n (set_state t (Done (value_now graph s t n0) (is_change graph s t n0) (found_picks s n0))) ne

same_cell-stands : (graph : Graph) (s : Core) (step : Step) → IsLawful graph s → allowed graph s step ≡ true → (n m since : ℕ) → cell (apply graph s step) n ≡ cell s n → has_out (outs s m) n since ≡ true → IsRunEdge (apply graph s step) n m since ⊎ IsNewEdge (apply graph s step) n m since
same_cell-stands graph s step h a n m since c e = edge-from s q n m since (ap (λ (x : Cell). is_in m (nodes_in (picks_of (state_of (last_done x.entries))))) c)
    (λ k. phase-key s q (λ v x. phase-ended s q (step-phases graph s step a) v x) since (last_run_of q n m) (subst (λ (x : Cell). IsKeyOf s since (read_all m x.entries nothing_read).current) (sym c) k))
    (λ hd k. (subst (λ (x : Cell). is_some_of (first_open x.entries) since ≡ true) (sym c) hd, same-candidate s q n m (ap (λ (x : Cell). x.found) c) k))
    (h.edges_are_kept.stands n m since e)
  where
    q : Core
    q = apply graph s step

-- a pick that the Done picks on, and its run
finished-run : (graph : Graph) (s : Core) → IsLawful graph s → (q : Core) → ((v : ℕ) → live s v ≡ false → live q v ≡ false) → (t n : ℕ) (v : Value) (c : Bool) (ps : List (Option ℕ)) → heads s t n ≡ true → entries q n ≡ with_state t (Done v c ps) (entries s n)
    → (m since : ℕ) → is_in m (nodes_in ps) ≡ true → IsKeyOf s since (go_on (last_run_of s n m) (read_all m (entries s n) nothing_read).fresh t) → IsRunEdge q n m since
finished-run graph s h q f t n v c ps hd e m since i k = record {
  picked = finished-picks graph s h q t n v c ps frame e m ∙ i;
  key = phase-key s q f since (last_run_of q n m) (subst (λ (o : Option Run). IsKeyOf s since o) (sym current) k);
}
  where
    frame : at is_frame (entries s n) t ≡ true
    frame = head-live graph s h t n hd

    current : last_run_of q n m ≡ go_on (last_run_of s n m) (read_all m (entries s n) nothing_read).fresh t
    current = ap (λ (es : List Entry). (read_all m es nothing_read).current) e
        ∙ ap (λ (x : Reading). x.current) (finished-reading m t v c ps (entries s n) nothing_read (h.one_entry n) frame (λ x b. h.frames_are_open.behind_dones n t x b frame))
        ∙ ap (λ (b : Bool). elim b as (λ _. Option Run) [ true ↦ go_on (last_run_of s n m) (read_all m (entries s n) nothing_read).fresh t | false ↦ None ]) i

goes_on-key : (s : Core) (since t : ℕ) (fresh : Bool) (c : Option Run) → IsKeyOf s since c → IsKeyOf s since (go_on c fresh t)
goes_on-key s since t fresh None k = absurd k
goes_on-key s since t fresh (Some r) k = k

skipped-stands : (graph : Graph) (s : Core) → IsLawful graph s → (t n0 : ℕ) → allowed graph s (steps.Skip t n0) ≡ true → (n m since : ℕ) → has_out (outs s m) n since ≡ true → IsRunEdge (apply graph s (steps.Skip t n0)) n m since ⊎ IsNewEdge (apply graph s (steps.Skip t n0)) n m since
skipped-stands graph s h t n0 a n m since e = go (cases_Bool (n == n0))
  where
    q : Core
    q = apply graph s (steps.Skip t n0)

    hd : heads s t n0 ≡ true
    hd = at_front-heads graph s t n0 (can_work-at_front graph s t n0 (skip-can_work graph s t n0 a))

    here : has_out (outs s m) n0 since ≡ true → IsRunEdge s n0 m since ⊎ IsNewEdge s n0 m since → IsRunEdge q n0 m since ⊎ IsNewEdge q n0 m since
    here k (inl x) = inl (finished-run graph s h q (λ v y. phase-ended s q (step-phases graph s (steps.Skip t n0) a) v y) t n0 (value_before (entries s n0) t) false (picks_before (entries s n0) t) hd (skip-list graph s h t n0 a) m since (head-prior graph s h t n0 m hd ∙ x.picked) (goes_on-key s since t (read_all m (entries s n0) nothing_read).fresh (last_run_of s n0 m) x.key))
    here k (inr x) = absurd (both_ways _ (skip-untouched graph s t n0 a) (found-touched graph s h t n0 hd (candidate-found s n0 m x.found)))

    go : ((n == n0) ≡ true) ⊎ ((n == n0) ≡ false) → IsRunEdge q n m since ⊎ IsNewEdge q n m since
    go (inr ne) = same_cell-stands graph s (steps.Skip t n0) h a n m since (skipped-there graph s t n0 n ne) e
    go (inl y) = let j = eqb-true n n0 y in let e0 = subst (λ (w : ℕ). has_out (outs s m) w since ≡ true) j e in subst (λ (w : ℕ). IsRunEdge q w m since ⊎ IsNewEdge q w m since) (sym j) (here e0 (h.edges_are_kept.stands n0 m since e0))

resolved-stands : (graph : Graph) (s : Core) → IsLawful graph s → (t n0 : ℕ) → allowed graph s (steps.Resolve t n0) ≡ true → (n m since : ℕ) → has_out (outs s m) n since ≡ true → IsRunEdge (apply graph s (steps.Resolve t n0)) n m since ⊎ IsNewEdge (apply graph s (steps.Resolve t n0)) n m since
resolved-stands graph s h t n0 a n m since e = go (cases_Bool (n == n0))
  where
    q : Core
    q = apply graph s (steps.Resolve t n0)

    hd : heads s t n0 ≡ true
    hd = at_front-heads graph s t n0 (can_work-at_front graph s t n0 (resolve-can_work graph s t n0 a))

    finished : is_in m (nodes_in (found_picks s n0)) ≡ true → IsKeyOf s since (go_on (last_run_of s n0 m) (read_all m (entries s n0) nothing_read).fresh t) → IsRunEdge q n0 m since
    finished i k = finished-run graph s h q (λ v y. phase-ended s q (step-phases graph s (steps.Resolve t n0) a) v y) t n0 (value_now graph s t n0) (is_change graph s t n0) (found_picks s n0) hd (resolve-list graph s h t n0 a) m since i k

    not_fresh : (read_all m (entries s n0) nothing_read).fresh ≡ false
    not_fresh = let d = h.ended_is_prefix.done n0 (head-there graph s h t n0 hd) in done-not_fresh m (entries s n0) nothing_read d.0 d.2

    -- the run of a candidate that was not picked begins at the call
    begins : (c : Option Run) → is_some c ≡ false → (f : Bool) → f ≡ false → since ≡ t → IsKeyOf s since (go_on c f t)
    begins (Some r) k f x y = absurd (true≢false k)
    begins None k true x y = absurd (true≢false x)
    begins None k false x y = y

    here : has_out (outs s m) n0 since ≡ true → IsRunEdge s n0 m since ⊎ IsNewEdge s n0 m since → IsRunEdge q n0 m since
    here k (inl x) = finished (found (is_candidate s n0 m) (has_node (outs s m) n0) (resolve-released graph s h t n0 a m (head-prior graph s h t n0 m hd ∙ x.picked)) (out-node (outs s m) n0 since k)) (goes_on-key s since t (read_all m (entries s n0) nothing_read).fresh (last_run_of s n0 m) x.key)
      where
        found : (x y : Bool) → (x || not y) ≡ true → y ≡ true → x ≡ true
        found x y h k = grind (arith, h, k)
    here k (inr x) = finished x.found (begins (last_run_of s n0 m) (seen-all m (entries s n0) ∙ x.not_picked) (read_all m (entries s n0) nothing_read).fresh not_fresh (heads-same s t since n0 hd x.first_open))

    go : ((n == n0) ≡ true) ⊎ ((n == n0) ≡ false) → IsRunEdge q n m since ⊎ IsNewEdge q n m since
    go (inr ne) = same_cell-stands graph s (steps.Resolve t n0) h a n m since (resolved-there graph s t n0 n ne) e
    go (inl y) = let j = eqb-true n n0 y in let e0 = subst (λ (w : ℕ). has_out (outs s m) w since ≡ true) j e in inl (subst (λ (w : ℕ). IsRunEdge q w m since) (sym j) (here e0 (h.edges_are_kept.stands n0 m since e0)))

-- ---- Discover

discovered-new : (graph : Graph) (s : Core) → IsLawful graph s → (t n0 c : ℕ) → allowed graph s (steps.Discover t n0 c) ≡ true → IsNewEdge (apply graph s (steps.Discover t n0 c)) n0 c t
discovered-new graph s h t n0 c a = record {
  not_picked = same-picks s q n0 c (quiet-last_done graph s h n0 (entries q n0) l) ∙ sym (head-prior graph s h t n0 c hd) ∙ discover-not_prior graph s t n0 c a;
  first_open = is-some _ t (quiet-head graph s h n0 (entries q n0) l t (finder-executes graph s h t n0 hd found) hd);
  found = same-candidate s q n0 c (step-found graph s (steps.Discover t n0 c) a refl n0 found) (discover-candidate graph s t n0 c a);
}
  where
    q : Core
    q = apply graph s (steps.Discover t n0 c)

    hd : heads s t n0 ≡ true
    hd = at_front-heads graph s t n0 (can_work-at_front graph s t n0 (due-can_work graph s t n0 (discover-due graph s t n0 c a)))

    found : is_found s n0 ≡ true
    found = candidate-found s n0 c (discover-candidate graph s t n0 c a)

    l : QuietStep graph s n0 (entries q n0)
    l = step-quiet graph s (steps.Discover t n0 c) h a refl n0

-- ---- the steps

plain-stands : (graph : Graph) (s : Core) (step : Step) → IsLawful graph s → allowed graph s step ≡ true → finishes step ≡ false → edges step ≡ false → (n m since : ℕ) → has_out (outs (apply graph s step) m) n since ≡ true → IsRunEdge (apply graph s step) n m since ⊎ IsNewEdge (apply graph s step) n m since
plain-stands graph s step h a f g n m since e = old-stands graph s step h a f n m since (subst (λ (os : List OutEdge). has_out os n since ≡ true) (step-outs graph s step g m) e)

step-stands : (graph : Graph) (s : Core) (step : Step) → IsLawful graph s → allowed graph s step ≡ true → (n m since : ℕ) → has_out (outs (apply graph s step) m) n since ≡ true → IsRunEdge (apply graph s step) n m since ⊎ IsNewEdge (apply graph s step) n m since
step-stands graph s (steps.Frame t n0) h a n m since e = plain-stands graph s (steps.Frame t n0) h a refl refl n m since e
step-stands graph s (steps.Start t) h a n m since e = plain-stands graph s (steps.Start t) h a refl refl n m since e
step-stands graph s (steps.Skip t n0) h a n m since e = skipped-stands graph s h t n0 a n m since (subst (λ (os : List OutEdge). has_out os n since ≡ true) (step-outs graph s (steps.Skip t n0) refl m) e)
step-stands graph s (steps.Gather t n0 i) h a n m since e = plain-stands graph s (steps.Gather t n0 i) h a refl refl n m since e
step-stands graph s (steps.Evaluate t n0) h a n m since e = plain-stands graph s (steps.Evaluate t n0) h a refl refl n m since e
step-stands graph s (steps.Body t n0) h a n m since e = plain-stands graph s (steps.Body t n0) h a refl refl n m since e
step-stands graph s (steps.Resolve t n0) h a n m since e = resolved-stands graph s h t n0 a n m since (subst (λ (os : List OutEdge). has_out os n since ≡ true) (step-outs graph s (steps.Resolve t n0) refl m) e)
step-stands graph s (steps.Discover t n0 c) h a n m since e = go (discovered-outs graph s t n0 c m)
  where
    q : Core
    q = apply graph s (steps.Discover t n0 c)

    two : m ≡ c → (has_out (outs s m) n since ≡ true) ⊎ (((n0 == n) ≡ true) × ((t == since) ≡ true)) → IsRunEdge q n m since ⊎ IsNewEdge q n m since
    two j (inl x) = old-stands graph s (steps.Discover t n0 c) h a refl n m since x
    two j (inr x) = inr (subst (λ (w : ℕ). IsNewEdge q n w since) (sym j) (subst (λ (w : ℕ). IsNewEdge q w c since) (eqb-true n0 n x.0) (subst (λ (w : ℕ). IsNewEdge q n0 c w) (eqb-true t since x.1) (discovered-new graph s h t n0 c a))))

    go : (outs q m ≡ outs s m) ⊎ ((m ≡ c) × (outs q m ≡ with_out (outs s m) n0 t)) → IsRunEdge q n m since ⊎ IsNewEdge q n m since
    go (inl x) = old-stands graph s (steps.Discover t n0 c) h a refl n m since (subst (λ (os : List OutEdge). has_out os n since ≡ true) x e)
    go (inr x) = two x.0 (added-out n0 t n since (outs s m) (subst (λ (os : List OutEdge). has_out os n since ≡ true) x.1 e))
step-stands graph s (steps.Drop t n0 o) h a n m since e = go (dropped-outs graph s t n0 o m)
  where
    q : Core
    q = apply graph s (steps.Drop t n0 o)

    go : (outs q m ≡ outs s m) ⊎ ((m ≡ o) × (outs q m ≡ remove_first n0 (outs s m))) → IsRunEdge q n m since ⊎ IsNewEdge q n m since
    go (inl x) = old-stands graph s (steps.Drop t n0 o) h a refl n m since (subst (λ (os : List OutEdge). has_out os n since ≡ true) x e)
    go (inr x) = old-stands graph s (steps.Drop t n0 o) h a refl n m since (removed-less n0 n since (outs s m) (subst (λ (os : List OutEdge). has_out os n since ≡ true) x.1 e))
step-stands graph s (steps.Mark t n0) h a n m since e = plain-stands graph s (steps.Mark t n0) h a refl refl n m since e
step-stands graph s (steps.Look t) h a n m since e = plain-stands graph s (steps.Look t) h a refl refl n m since e
step-stands graph s (steps.End t) h a n m since e = plain-stands graph s (steps.End t) h a refl refl n m since e
step-stands graph s (steps.Collect n0) h a n m since e = plain-stands graph s (steps.Collect n0) h a refl refl n m since e

-- ---- one edge of each node

count-none : (n : ℕ) (os : List OutEdge) → ((since : ℕ) → has_out os n since ≡ false) → count_edges n os ≡ 0
count-none n [] f = refl
count-none n (edge ∷ os) f = go (cases_Bool (edge.0 == n)) (count-none n os (λ since. false_from_ne_true _ (λ k. both_ways _ (f since) (or_right _ _ k))))
  where
    go : ((edge.0 == n) ≡ true) ⊎ ((edge.0 == n) ≡ false) → count_edges n os ≡ 0 → count_edges n (edge ∷ os) ≡ 0
    go (inl e) r = absurd (both_ways _ (f edge.1) (or_left _ _ (and_from (edge.0 == n) (edge.1 == edge.1) e (eq-eqb edge.1 edge.1 refl))))
    go (inr e) r = grind (arith, e, r)

count-added : (n n0 t : ℕ) (os : List OutEdge) → count_edges n (with_out os n0 t) ≡ count_edges n os + elim (n0 == n) as (λ _. ℕ) [ true ↦ 1 | false ↦ 0 ]
count-added n n0 t [] = grind arith
count-added n n0 t (edge ∷ os) = let r = count-added n n0 t os in grind (arith, r)

count-removed : (n n0 : ℕ) (os : List OutEdge) → count_edges n (remove_first n0 os) ≤ count_edges n os
count-removed n n0 [] = omega arith
count-removed n n0 (edge ∷ os) = go (edge.0 == n0) (count-removed n n0 os)
  where
    more : (b : Bool) → b ≡ (edge.0 == n) → count_edges n (remove_first n0 os) ≤ count_edges n os → count_edges n (edge ∷ remove_first n0 os) ≤ count_edges n (edge ∷ os)
    more true e r = grind (arith, e, r)
    more false e r = grind (arith, e, r)

    less : count_edges n os ≤ count_edges n (edge ∷ os)
    less = grind arith

    go : (b : Bool) → count_edges n (remove_first n0 os) ≤ count_edges n os → count_edges n (elim b as (λ _. List OutEdge) [ true ↦ os | false ↦ edge ∷ remove_first n0 os ]) ≤ count_edges n (edge ∷ os)
    go true r = less
    go false r = more (edge.0 == n) refl r

-- A candidate that a first open call comes to discover has no edge of the node.
discovered-none : (graph : Graph) (s : Core) → IsLawful graph s → (t n0 c : ℕ) → allowed graph s (steps.Discover t n0 c) ≡ true → (since : ℕ) → has_out (outs s c) n0 since ≡ false
discovered-none graph s h t n0 c a since = false_from_ne_true _ (λ k. go k (h.edges_are_kept.stands n0 c since k))
  where
    hd : heads s t n0 ≡ true
    hd = at_front-heads graph s t n0 (can_work-at_front graph s t n0 (due-can_work graph s t n0 (discover-due graph s t n0 c a)))

    go : has_out (outs s c) n0 since ≡ true → IsRunEdge s n0 c since ⊎ IsNewEdge s n0 c since → ⊥
    go k (inl x) = both_ways _ (discover-not_prior graph s t n0 c a) (head-prior graph s h t n0 c hd ∙ x.picked)
    go k (inr x) = both_ways _ (discover-no_edge graph s t n0 c a) (subst (λ (w : ℕ). has_out (outs s c) n0 w ≡ true) (heads-same s t since n0 hd x.first_open) k)

plain-once : (graph : Graph) (s : Core) (step : Step) → IsLawful graph s → edges step ≡ false → (n m : ℕ) → count_edges n (outs (apply graph s step) m) ≤ 1
plain-once graph s step h g n m = subst (λ (os : List OutEdge). count_edges n os ≤ 1) (sym (step-outs graph s step g m)) (h.edges_are_kept.once n m)

step-once : (graph : Graph) (s : Core) (step : Step) → IsLawful graph s → allowed graph s step ≡ true → (n m : ℕ) → count_edges n (outs (apply graph s step) m) ≤ 1
step-once graph s (steps.Discover t n0 c) h a n m = go (discovered-outs graph s t n0 c m)
  where
    q : Core
    q = apply graph s (steps.Discover t n0 c)

    added : m ≡ c → (b : Bool) → (n0 == n) ≡ b → count_edges n (outs s m) + elim b as (λ _. ℕ) [ true ↦ 1 | false ↦ 0 ] ≤ 1
    added j false e = let o = h.edges_are_kept.once n m in omega (arith, o)
    added j true e =
        let z = count-none n (outs s m) (λ since. subst (λ (w : ℕ). has_out (outs s m) w since ≡ false) (eqb-true n0 n e) (subst (λ (w : ℕ). has_out (outs s w) n0 since ≡ false) (sym j) (discovered-none graph s h t n0 c a since))) in
        omega (arith, z)

    go : (outs q m ≡ outs s m) ⊎ ((m ≡ c) × (outs q m ≡ with_out (outs s m) n0 t)) → count_edges n (outs q m) ≤ 1
    go (inl e) = subst (λ (os : List OutEdge). count_edges n os ≤ 1) (sym e) (h.edges_are_kept.once n m)
    go (inr e) = subst (λ (os : List OutEdge). count_edges n os ≤ 1) (sym e.1) (subst (λ (k : ℕ). k ≤ 1) (sym (count-added n n0 t (outs s m))) (added e.0 (n0 == n) refl))
step-once graph s (steps.Drop t n0 o) h a n m = go (dropped-outs graph s t n0 o m)
  where
    q : Core
    q = apply graph s (steps.Drop t n0 o)

    go : (outs q m ≡ outs s m) ⊎ ((m ≡ o) × (outs q m ≡ remove_first n0 (outs s m))) → count_edges n (outs q m) ≤ 1
    go (inl e) = subst (λ (os : List OutEdge). count_edges n os ≤ 1) (sym e) (h.edges_are_kept.once n m)
    go (inr e) = subst (λ (os : List OutEdge). count_edges n os ≤ 1) (sym e.1) (let r = count-removed n n0 (outs s m) in let k = h.edges_are_kept.once n m in omega (arith, r, k))
step-once graph s (steps.Frame t n0) h a n m = plain-once graph s (steps.Frame t n0) h refl n m
step-once graph s (steps.Start t) h a n m = plain-once graph s (steps.Start t) h refl n m
step-once graph s (steps.Skip t n0) h a n m = plain-once graph s (steps.Skip t n0) h refl n m
step-once graph s (steps.Gather t n0 i) h a n m = plain-once graph s (steps.Gather t n0 i) h refl n m
step-once graph s (steps.Evaluate t n0) h a n m = plain-once graph s (steps.Evaluate t n0) h refl n m
step-once graph s (steps.Body t n0) h a n m = plain-once graph s (steps.Body t n0) h refl n m
step-once graph s (steps.Resolve t n0) h a n m = plain-once graph s (steps.Resolve t n0) h refl n m
step-once graph s (steps.Mark t n0) h a n m = plain-once graph s (steps.Mark t n0) h refl n m
step-once graph s (steps.Look t) h a n m = plain-once graph s (steps.Look t) h refl n m
step-once graph s (steps.End t) h a n m = plain-once graph s (steps.End t) h refl n m
step-once graph s (steps.Collect n0) h a n m = plain-once graph s (steps.Collect n0) h refl n m

-- ---- the fact

-- An edge is missing only where the first open call has found something.
step-missing : (graph : Graph) (s : Core) (step : Step) → IsLawful graph s → allowed graph s step ≡ true → (n m : ℕ) → picks_last (apply graph s step) n m ≡ true → has_node (outs (apply graph s step) m) n ≡ false → SomeHead (apply graph s step) n (λ u. is_found (apply graph s step) n ≡ true)
step-missing graph s step h a n m p e =
    let w = step-WorkIsKept graph s step h a in
    let d = w.drops n m p e in
    let k = w.finds n d.0 in
    record { head = k.head; first = k.first; holds = d.0 }

pub step-EdgesAreKept : (graph : Graph) (s : Core) (step : Step) → IsLawful graph s → allowed graph s step ≡ true → EdgesAreKept (apply graph s step)
step-EdgesAreKept graph s step h a = record {
  once = step-once graph s step h a;
  stands = step-stands graph s step h a;
  missing = step-missing graph s step h a;
  begins_entered = step-begins_entered graph s step h a;
  ends_entered = step-ends_entered graph s step h a;
}
