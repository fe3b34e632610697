-- After each step, where the first open call has dropped or discovered a candidate, something is found at its node.
use Rattle.std.proofs.Common.{◌≡◌, ℕ, Bool, true, false, ◌&&◌, not, ◌==◌, ◌⊎◌, inl, inr, refl, sym, ap, arith, List, [], true≢false, ◌∙◌, subst, Option, Some, None}
use Rattle.std.proofs.lemmas.Bool.{eqb-true, eq-eqb, both_ways, cases_Bool}
use Rattle.std.specs.Prelude.{is_some}
use Rattle.script_tree.specs.declared.value.Value.{Value}
use Rattle.signal_graph.specs.Graph.{Graph, is_in}
use Rattle.signal_graph.specs.Values.{nodes_in}
use Rattle.node_versions.specs.declared.entry.State.{State}
use Rattle.node_versions.specs.declared.entry.State.TheVariants.{Done}
use Rattle.node_versions.specs.declared.entry.Entry.{Entry}
use Rattle.node_versions.specs.Entries.{OutEdge, at, is_frame, last_done, with_state, picks_of, picks_before, value_before, state_of, has_out, has_node, with_out}
use Rattle.flow_model.specs.declared.step.Step.{Step}
use Rattle.flow_model.specs.declared.step.Step.TheVariants as steps
use Rattle.flow_model.specs.Machine.State.{Core, Found, cell, live, entries, outs, opens, with_cell}
use Rattle.flow_model.specs.Machine.Words.{heads, is_found, picks_of_found, is_candidate, found_picks, value_now}
use Rattle.flow_model.specs.Machine.Changes.{set_state, remove_first}
use Rattle.flow_model.specs.Machine.Steps.{allowed, apply, is_change}
use Rattle.flow_model.specs.Kept.Lawful.{IsLawful, picks_last}
use Rattle.flow_model.proofs.OneStep.WhoMayStep.{opens-live, can_work-at_front, at_front-heads, resolve-can_work}
use Rattle.flow_model.proofs.OneList.StatesAndPlaces.{first_open-frame}
use Rattle.flow_model.proofs.OrderStays.NoFrameBeforeDones.{head-first}
use Rattle.flow_model.proofs.OneStep.WhoLivesAndFrames.{step-phases}
use Rattle.flow_model.proofs.OneStep.SameCallers.{phase-live}
use Rattle.flow_model.proofs.OrderStays.EntriesAndRoom.{step-one_entry}
use Rattle.flow_model.proofs.OrderStays.OpenNodesHaveFrames.{step-FramesAreOpen, closed-opens}
use Rattle.flow_model.proofs.FramesSpread.AfterOtherSteps.{removed-less, removed-node}
use Rattle.flow_model.proofs.FramesSpread.NewFrames.{edge-head}
use Rattle.flow_model.proofs.FramesSpread.AfterDones.{IsFinishing, heads-same, skip-finishing, resolve-finishing}
use Rattle.flow_model.proofs.Wants.FramedWith.{out-node, heads-opens}
use Rattle.flow_model.proofs.Edges.EdgesFitCandidates.{added-out, discover-candidate}
use Rattle.flow_model.proofs.OneStep.QuietSteps.{finishes, step-quiet, skipped-list, resolved-list, edges, step-outs, SameWork, step-work}
use Rattle.flow_model.proofs.OneList.OwnEntries.{finished-last_done}
use Rattle.flow_model.proofs.OneStep.FirstOpenCalls.{head-live, quiet-last_done, step-frame_no_done}
use Rattle.flow_model.proofs.Work.FoundStays.{step-found, resolved-work}
use Rattle.flow_model.proofs.Lengths.EdgesAreWork.{discovered-outs, dropped-outs, drop-other, drop-found}
use Rattle.flow_model.proofs.Settled.AfterOtherSteps.{added-node_less}

-- ---- candidates that a first open call has dropped

abbrev pub Dropping : Core → ℕ → ℕ → Type 0
Dropping q n m = (is_found q n ≡ true) × (is_candidate q n m ≡ false)

same-dropping : (s q : Core) (n m : ℕ) → (cell q n).found ≡ (cell s n).found → Dropping s n m → Dropping q n m
same-dropping s q n m e d = (ap (λ (o : Option Found). is_some o) e ∙ d.0, ap (λ (o : Option Found). is_in m (nodes_in (picks_of_found o))) e ∙ d.1)

pub same-picks : (s q : Core) (n m : ℕ) → last_done (entries q n) ≡ last_done (entries s n) → picks_last q n m ≡ picks_last s n m
same-picks s q n m e = ap (λ (o : Option Entry). is_in m (nodes_in (picks_of (state_of o)))) e

quiet-drops : (graph : Graph) (s : Core) (step : Step) → IsLawful graph s → allowed graph s step ≡ true → finishes step ≡ false → (n m : ℕ) → (has_node (outs (apply graph s step) m) n ≡ false → has_node (outs s m) n ≡ false)
    → picks_last (apply graph s step) n m ≡ true → has_node (outs (apply graph s step) m) n ≡ false → Dropping (apply graph s step) n m
quiet-drops graph s step h a f n m back p e =
    let l = quiet-last_done graph s h n (entries (apply graph s step) n) (step-quiet graph s step h a f n) in
    let d = h.work_is_kept.drops n m (sym (same-picks s (apply graph s step) n m l) ∙ p) (back e) in
    same-dropping s (apply graph s step) n m (step-found graph s step a f n d.0) d

same_outs-drops : (graph : Graph) (s : Core) (step : Step) → IsLawful graph s → allowed graph s step ≡ true → finishes step ≡ false → edges step ≡ false → (n m : ℕ) → picks_last (apply graph s step) n m ≡ true → has_node (outs (apply graph s step) m) n ≡ false → Dropping (apply graph s step) n m
same_outs-drops graph s step h a f g n m p e = quiet-drops graph s step h a f n m (λ k. sym (ap (λ (os : List OutEdge). has_node os n) (step-outs graph s step g m)) ∙ k) p e

-- the picks after a Done at the node
pub finished-picks : (graph : Graph) (s : Core) → IsLawful graph s → (q : Core) (t n : ℕ) (v : Value) (c : Bool) (ps : List (Option ℕ)) → at is_frame (entries s n) t ≡ true → entries q n ≡ with_state t (Done v c ps) (entries s n) → (m : ℕ) → picks_last q n m ≡ is_in m (nodes_in ps)
finished-picks graph s h q t n v c ps fr e m = ap (λ (es : List Entry). is_in m (nodes_in (picks_of (state_of (last_done es))))) e
    ∙ ap (λ (x : State). is_in m (nodes_in (picks_of x))) (finished-last_done t v c ps (entries s n) (h.one_entry n) fr (λ x b. h.frames_are_open.behind_dones n t x b fr))

-- Where a call has finished, no edge is missing.
finished-stands : (graph : Graph) (s : Core) → IsLawful graph s → (q : Core) (t n : ℕ) (v : Value) (c : Bool) (ps : List (Option ℕ)) → IsFinishing graph s t n ps → entries q n ≡ with_state t (Done v c ps) (entries s n) → (m : ℕ) → outs q m ≡ outs s m → picks_last q n m ≡ true → has_node (outs q m) n ≡ true
finished-stands graph s h q t n v c ps fin e m o p = ap (λ (os : List OutEdge). has_node os n) o ∙ go (cases_Bool (picks_last s n m))
  where
    hd : heads s t n ≡ true
    hd = at_front-heads graph s t n fin.front

    picked : is_in m (nodes_in ps) ≡ true
    picked = sym (finished-picks graph s h q t n v c ps (head-live graph s h t n hd) e m) ∙ p

    go : (picks_last s n m ≡ true) ⊎ (picks_last s n m ≡ false) → has_node (outs s m) n ≡ true
    go (inl k) = fin.goes_on m picked k
    go (inr k) = out-node (outs s m) n t (fin.begins m picked k)

pub step-drops : (graph : Graph) (s : Core) (step : Step) → IsLawful graph s → allowed graph s step ≡ true → (n m : ℕ) → picks_last (apply graph s step) n m ≡ true → has_node (outs (apply graph s step) m) n ≡ false → Dropping (apply graph s step) n m
step-drops graph s (steps.Frame t n0) h a n m p e = same_outs-drops graph s (steps.Frame t n0) h a refl refl n m p e
step-drops graph s (steps.Start t) h a n m p e = same_outs-drops graph s (steps.Start t) h a refl refl n m p e
step-drops graph s (steps.Skip t n0) h a n m p e = go (skipped-list graph s t n0 n)
  where
    q : Core
    q = apply graph s (steps.Skip t n0)

    go : (entries q n ≡ entries s n) ⊎ ((n ≡ n0) × (entries q n ≡ with_state t (Done (value_before (entries s n0) t) false (picks_before (entries s n0) t)) (entries s n))) → Dropping q n m
    go (inl l) = same-dropping s q n m (step-work graph s (steps.Skip t n0) refl n).found
        (h.work_is_kept.drops n m (sym (same-picks s q n m (ap last_done l)) ∙ p) (sym (ap (λ (os : List OutEdge). has_node os n) (step-outs graph s (steps.Skip t n0) refl m)) ∙ e))
    go (inr l) = absurd (both_ways _ e (finished-stands graph s h q t n (value_before (entries s n0) t) false (picks_before (entries s n0) t)
        (subst (λ (j : ℕ). IsFinishing graph s t j (picks_before (entries s n0) t)) (sym l.0) (skip-finishing graph s h t n0 a)) l.1 m (step-outs graph s (steps.Skip t n0) refl m) p))
step-drops graph s (steps.Gather t n0 i) h a n m p e = same_outs-drops graph s (steps.Gather t n0 i) h a refl refl n m p e
step-drops graph s (steps.Evaluate t n0) h a n m p e = same_outs-drops graph s (steps.Evaluate t n0) h a refl refl n m p e
step-drops graph s (steps.Body t n0) h a n m p e = same_outs-drops graph s (steps.Body t n0) h a refl refl n m p e
step-drops graph s (steps.Resolve t n0) h a n m p e = go (resolved-list graph s t n0 n) (resolved-work graph s h t n0 a n)
  where
    q : Core
    q = apply graph s (steps.Resolve t n0)

    go : (entries q n ≡ entries s n) ⊎ ((n ≡ n0) × (entries q n ≡ with_state t (Done (value_now graph s t n0) (is_change graph s t n0) (found_picks s n0)) (entries s n)))
        → ((n ≡ n0) × ((cell q n).gathered ≡ []) × ((cell q n).found ≡ None) × ((cell q n).body ≡ None)) ⊎ (((n == n0) ≡ false) × SameWork s q n × (entries q n ≡ entries s n)) → Dropping q n m
    go (inr l) _ = absurd (both_ways _ e (finished-stands graph s h q t n (value_now graph s t n0) (is_change graph s t n0) (found_picks s n0)
        (subst (λ (j : ℕ). IsFinishing graph s t j (found_picks s n0)) (sym l.0) (resolve-finishing graph s h t n0 a)) l.1 m (step-outs graph s (steps.Resolve t n0) refl m) p))
    go (inl l) (inr w) = same-dropping s q n m w.1.found (h.work_is_kept.drops n m (sym (same-picks s q n m (ap last_done l)) ∙ p) (sym (ap (λ (os : List OutEdge). has_node os n) (step-outs graph s (steps.Resolve t n0) refl m)) ∙ e))
    go (inl l) (inl w) = absurd (not_same w.0)
      where
        -- the call's Frame has gone
        not_same : n ≡ n0 → ⊥
        not_same j =
            let fr = head-live graph s h t n0 (at_front-heads graph s t n0 (can_work-at_front graph s t n0 (resolve-can_work graph s t n0 a))) in
            let fq : at is_frame (entries q n) t ≡ true = ap (λ (es : List Entry). at is_frame es t) l ∙ subst (λ (x : ℕ). at is_frame (entries s x) t ≡ true) (sym j) fr in
            let o = (step-FramesAreOpen graph s (steps.Resolve t n0) h a).opens_frames t n ∙ fq in
            let c = closed-opens (with_cell s n0 (set_state t (Done (value_now graph s t n0) (is_change graph s t n0) (found_picks s n0)))) t n0 (is_change graph s t n0) t n (opens-live s t n0 (h.frames_are_open.opens_frames t n0 ∙ fr)) in
            closed (opens s t n) (t == t) (n == n0) (opens q t n) c (eq-eqb t t refl) (eq-eqb n n0 j) o
          where
            closed : (p x y b : Bool) → b ≡ (p && not (x && y)) → x ≡ true → y ≡ true → b ≡ true → ⊥
            closed p x y b h j k i = grind (arith, h, j, k, i)
step-drops graph s (steps.Discover t n0 c) h a n m p e = quiet-drops graph s (steps.Discover t n0 c) h a refl n m (λ k. go (discovered-outs graph s t n0 c m) k) p e
  where
    q : Core
    q = apply graph s (steps.Discover t n0 c)

    go : (outs q m ≡ outs s m) ⊎ ((m ≡ c) × (outs q m ≡ with_out (outs s m) n0 t)) → has_node (outs q m) n ≡ false → has_node (outs s m) n ≡ false
    go (inl x) k = sym (ap (λ (os : List OutEdge). has_node os n) x) ∙ k
    go (inr x) k = added-node_less (outs s m) n0 t n (sym (ap (λ (os : List OutEdge). has_node os n) x.1) ∙ k)
step-drops graph s (steps.Drop t n0 o) h a n m p e = go (dropped-outs graph s t n0 o m) (cases_Bool (n == n0))
  where
    q : Core
    q = apply graph s (steps.Drop t n0 o)

    other : (has_node (outs q m) n ≡ has_node (outs s m) n) → Dropping q n m
    other x = quiet-drops graph s (steps.Drop t n0 o) h a refl n m (λ k. sym x ∙ k) p e

    go : (outs q m ≡ outs s m) ⊎ ((m ≡ o) × (outs q m ≡ remove_first n0 (outs s m))) → ((n == n0) ≡ true) ⊎ ((n == n0) ≡ false) → Dropping q n m
    go (inl x) y = other (ap (λ (os : List OutEdge). has_node os n) x)
    go (inr x) (inr ne) = other (ap (λ (os : List OutEdge). has_node os n) x.1 ∙ removed-node n0 n (outs s m) ne)
    go (inr x) (inl y) = same-dropping s q n m (step-work graph s (steps.Drop t n0 o) refl n).found
        (subst (λ (j : ℕ). Dropping s j m) (sym (eqb-true n n0 y)) (subst (λ (j : ℕ). Dropping s n0 j) (sym x.0) (drop-found graph s t n0 o a, drop-other graph s t n0 o a)))
step-drops graph s (steps.Mark t n0) h a n m p e = same_outs-drops graph s (steps.Mark t n0) h a refl refl n m p e
step-drops graph s (steps.Look t) h a n m p e = same_outs-drops graph s (steps.Look t) h a refl refl n m p e
step-drops graph s (steps.End t) h a n m p e = same_outs-drops graph s (steps.End t) h a refl refl n m p e
step-drops graph s (steps.Collect n0) h a n m p e = same_outs-drops graph s (steps.Collect n0) h a refl refl n m p e

-- ---- candidates that a first open call has discovered

-- A call that is first after the step, with an edge from before it, was first before it.
edge-was_head : (graph : Graph) (s : Core) (step : Step) → IsLawful graph s → allowed graph s step ≡ true → (n m u : ℕ) → heads (apply graph s step) u n ≡ true → has_out (outs s m) n u ≡ true → heads s u n ≡ true
edge-was_head graph s step h a n m u hd e = edge-head graph s h n m u lu (step-frame_no_done graph s step h a n u frame) e
  where
    q : Core
    q = apply graph s step

    frame : at is_frame (entries q n) u ≡ true
    frame = first_open-frame (entries q n) u (step-one_entry graph s step h a n) (head-first (entries q n) u hd)

    lu : live s u ≡ true
    lu = phase-live s q (step-phases graph s step a) u (opens-live q u n ((step-FramesAreOpen graph s step h a).opens_frames u n ∙ frame))

old-discovers : (graph : Graph) (s : Core) (step : Step) → IsLawful graph s → allowed graph s step ≡ true → (n m u : ℕ) → heads (apply graph s step) u n ≡ true → has_out (outs s m) n u ≡ true → (is_found s n ≡ true → (cell (apply graph s step) n).found ≡ (cell s n).found) → is_found (apply graph s step) n ≡ true
old-discovers graph s step h a n m u hd e same =
    let f = h.work_is_kept.discovers n m u (edge-was_head graph s step h a n m u hd e) e in
    ap (λ (o : Option Found). is_some o) (same f) ∙ f

quiet-discovers : (graph : Graph) (s : Core) (step : Step) → IsLawful graph s → allowed graph s step ≡ true → finishes step ≡ false → edges step ≡ false → (n m u : ℕ) → heads (apply graph s step) u n ≡ true → has_out (outs (apply graph s step) m) n u ≡ true → is_found (apply graph s step) n ≡ true
quiet-discovers graph s step h a f g n m u hd e = old-discovers graph s step h a n m u hd (subst (λ (os : List OutEdge). has_out os n u ≡ true) (step-outs graph s step g m) e) (step-found graph s step a f n)

pub candidate-found : (s : Core) (n m : ℕ) → is_candidate s n m ≡ true → is_found s n ≡ true
candidate-found s n m k = go (cell s n).found k
  where
    go : (o : Option Found) → is_in m (nodes_in (picks_of_found o)) ≡ true → is_some o ≡ true
    go None x = absurd (true≢false (sym x))
    go (Some y) x = refl

pub step-discovers : (graph : Graph) (s : Core) (step : Step) → IsLawful graph s → allowed graph s step ≡ true → (n m u : ℕ) → heads (apply graph s step) u n ≡ true → has_out (outs (apply graph s step) m) n u ≡ true → is_found (apply graph s step) n ≡ true
step-discovers graph s (steps.Frame t n0) h a n m u hd e = quiet-discovers graph s (steps.Frame t n0) h a refl refl n m u hd e
step-discovers graph s (steps.Start t) h a n m u hd e = quiet-discovers graph s (steps.Start t) h a refl refl n m u hd e
step-discovers graph s (steps.Skip t n0) h a n m u hd e = old-discovers graph s (steps.Skip t n0) h a n m u hd (subst (λ (os : List OutEdge). has_out os n u ≡ true) (step-outs graph s (steps.Skip t n0) refl m) e) (λ _. (step-work graph s (steps.Skip t n0) refl n).found)
step-discovers graph s (steps.Gather t n0 i) h a n m u hd e = quiet-discovers graph s (steps.Gather t n0 i) h a refl refl n m u hd e
step-discovers graph s (steps.Evaluate t n0) h a n m u hd e = quiet-discovers graph s (steps.Evaluate t n0) h a refl refl n m u hd e
step-discovers graph s (steps.Body t n0) h a n m u hd e = quiet-discovers graph s (steps.Body t n0) h a refl refl n m u hd e
step-discovers graph s (steps.Resolve t n0) h a n m u hd e = go (resolved-work graph s h t n0 a n)
  where
    q : Core
    q = apply graph s (steps.Resolve t n0)

    old : has_out (outs s m) n u ≡ true
    old = subst (λ (os : List OutEdge). has_out os n u ≡ true) (step-outs graph s (steps.Resolve t n0) refl m) e

    -- the call that was first has finished
    gone : n ≡ n0 → ⊥
    gone j =
        let was = edge-was_head graph s (steps.Resolve t n0) h a n m u hd old in
        let ht = at_front-heads graph s t n0 (can_work-at_front graph s t n0 (resolve-can_work graph s t n0 a)) in
        let it = heads-same s t u n (subst (λ (x : ℕ). heads s t x ≡ true) (sym j) ht) was in
        let frame = first_open-frame (entries q n) u (step-one_entry graph s (steps.Resolve t n0) h a n) (head-first (entries q n) u hd) in
        let o = (step-FramesAreOpen graph s (steps.Resolve t n0) h a).opens_frames u n ∙ frame in
        let c = closed-opens (with_cell s n0 (set_state t (Done (value_now graph s t n0) (is_change graph s t n0) (found_picks s n0)))) t n0 (is_change graph s t n0) u n (opens-live s t n0 (heads-opens graph s h t n0 ht)) in
        closed (opens s u n) (u == t) (n == n0) (opens q u n) c (eq-eqb u t it) (eq-eqb n n0 j) o
      where
        closed : (p x y b : Bool) → b ≡ (p && not (x && y)) → x ≡ true → y ≡ true → b ≡ true → ⊥
        closed p x y b h j k i = grind (arith, h, j, k, i)

    go : ((n ≡ n0) × ((cell q n).gathered ≡ []) × ((cell q n).found ≡ None) × ((cell q n).body ≡ None)) ⊎ (((n == n0) ≡ false) × SameWork s q n × (entries q n ≡ entries s n)) → is_found q n ≡ true
    go (inl w) = absurd (gone w.0)
    go (inr w) = old-discovers graph s (steps.Resolve t n0) h a n m u hd old (λ _. w.1.found)
step-discovers graph s (steps.Discover t n0 c) h a n m u hd e = go (discovered-outs graph s t n0 c m)
  where
    q : Core
    q = apply graph s (steps.Discover t n0 c)

    old : has_out (outs s m) n u ≡ true → is_found q n ≡ true
    old x = old-discovers graph s (steps.Discover t n0 c) h a n m u hd x (step-found graph s (steps.Discover t n0 c) a refl n)

    two : (has_out (outs s m) n u ≡ true) ⊎ (((n0 == n) ≡ true) × ((t == u) ≡ true)) → is_found q n ≡ true
    two (inl x) = old x
    two (inr x) =
        let f = subst (λ (j : ℕ). is_found s j ≡ true) (eqb-true n0 n x.0) (candidate-found s n0 c (discover-candidate graph s t n0 c a)) in
        ap (λ (o : Option Found). is_some o) (step-found graph s (steps.Discover t n0 c) a refl n f) ∙ f

    go : (outs q m ≡ outs s m) ⊎ ((m ≡ c) × (outs q m ≡ with_out (outs s m) n0 t)) → is_found q n ≡ true
    go (inl x) = old (subst (λ (os : List OutEdge). has_out os n u ≡ true) x e)
    go (inr x) = two (added-out n0 t n u (outs s m) (subst (λ (os : List OutEdge). has_out os n u ≡ true) x.1 e))
step-discovers graph s (steps.Drop t n0 o) h a n m u hd e = go (dropped-outs graph s t n0 o m)
  where
    q : Core
    q = apply graph s (steps.Drop t n0 o)

    old : has_out (outs s m) n u ≡ true → is_found q n ≡ true
    old x = old-discovers graph s (steps.Drop t n0 o) h a n m u hd x (step-found graph s (steps.Drop t n0 o) a refl n)

    go : (outs q m ≡ outs s m) ⊎ ((m ≡ o) × (outs q m ≡ remove_first n0 (outs s m))) → is_found q n ≡ true
    go (inl x) = old (subst (λ (os : List OutEdge). has_out os n u ≡ true) x e)
    go (inr x) = old (removed-less n0 n u (outs s m) (subst (λ (os : List OutEdge). has_out os n u ≡ true) x.1 e))
step-discovers graph s (steps.Mark t n0) h a n m u hd e = quiet-discovers graph s (steps.Mark t n0) h a refl refl n m u hd e
step-discovers graph s (steps.Look t) h a n m u hd e = quiet-discovers graph s (steps.Look t) h a refl refl n m u hd e
step-discovers graph s (steps.End t) h a n m u hd e = quiet-discovers graph s (steps.End t) h a refl refl n m u hd e
step-discovers graph s (steps.Collect n0) h a n m u hd e = quiet-discovers graph s (steps.Collect n0) h a refl refl n m u hd e
