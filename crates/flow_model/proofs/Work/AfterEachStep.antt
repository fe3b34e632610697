-- After each step and each beginning, what is gathered, found and evaluated is of first open calls that work, and comes in its order.
use Rattle.std.proofs.Common.{◌≡◌, ℕ, suc, true, false, ◌&&◌, ◌||◌, not, ◌==◌, ◌⊎◌, inl, inr, refl, sym, ap, [], ◌∙◌, subst, Option, Some, None}
use Rattle.std.proofs.lemmas.Bool.{both_ways}
use Rattle.std.specs.List.{list_any}
use Rattle.signal_graph.specs.declared.call.Call.{Call}
use Rattle.signal_graph.specs.Graph.{Graph, is_in, is_source, node_at, inputs_of}
use Rattle.node_versions.specs.Entries.{has, is_frame, value_at}
use Rattle.node_versions.proofs.Places.{at-has}
use Rattle.flow_model.specs.declared.step.Step.{Step}
use Rattle.flow_model.specs.declared.step.Step.TheVariants as steps
use Rattle.flow_model.specs.Machine.State.{Core, LiveCall, cell, call_of, call_or, entries, with_cell}
use Rattle.flow_model.specs.Machine.Words.{heads, touched, due, at_front, deps, is_found, is_candidate, found_candidates, found_now, body_now}
use Rattle.flow_model.specs.Machine.Steps.{allowed, apply, begin, new_call, all_gathered, gather, keep_found, keep_body}
use Rattle.flow_model.specs.Kept.Lawful.{IsLawful, IsWorking, SomeHead, WorkIsKept}
use Rattle.flow_model.proofs.OneStep.WhoMayStep.{gather-due, evaluate-at_front}
use Rattle.flow_model.proofs.OrderStays.AfterEachStep.{not_begun-entry}
use Rattle.flow_model.proofs.OneStep.BegunCalls.{begin-call}
use Rattle.flow_model.proofs.OneStep.QuietSteps.{finishes, SameWork, works, step-work, changed-work}
use Rattle.flow_model.proofs.OneStep.FirstOpenCalls.{head-live}
use Rattle.flow_model.proofs.Work.WorkAtOneNode.{WorkAt, Still, lawful-at, quiet-still, same-still, kept-at, empty-at, gather-asked, gathered-at, evaluate-touched, evaluate-gathered, evaluate-not_found, evaluated-at, body-found, body-gathered, body-at}
use Rattle.flow_model.proofs.Work.FoundStays.{resolved-work, skipped-still}
use Rattle.flow_model.proofs.Edges.DroppedAndDiscovered.{step-drops, step-discovers}

-- ---- the work at a node

quiet-at : (graph : Graph) (s : Core) (step : Step) → IsLawful graph s → allowed graph s step ≡ true → finishes step ≡ false → works step ≡ false → (n : ℕ) → WorkAt graph (apply graph s step) n
quiet-at graph s step h a f w n = kept-at graph s (apply graph s step) n (step-work graph s step w n) (quiet-still graph s step h a f n) (lawful-at graph s h n)

step-at : (graph : Graph) (s : Core) (step : Step) → IsLawful graph s → allowed graph s step ≡ true → (n : ℕ) → WorkAt graph (apply graph s step) n
step-at graph s (steps.Frame t n0) h a n = quiet-at graph s (steps.Frame t n0) h a refl refl n
step-at graph s (steps.Start t) h a n = quiet-at graph s (steps.Start t) h a refl refl n
step-at graph s (steps.Skip t n0) h a n = kept-at graph s (apply graph s (steps.Skip t n0)) n (step-work graph s (steps.Skip t n0) refl n) (skipped-still graph s h t n0 a n) (lawful-at graph s h n)
step-at graph s (steps.Gather t n0 i) h a n = go (changed-work s n0 (gather i (value_at (entries s i) t)) n)
  where
    q : Core
    q = apply graph s (steps.Gather t n0 i)

    still : Still graph s q n
    still = quiet-still graph s (steps.Gather t n0 i) h a refl n

    go : SameWork s q n ⊎ ((n ≡ n0) × (cell q n ≡ gather i (value_at (entries s i) t) (cell s n))) → WorkAt graph q n
    go (inl w) = kept-at graph s q n w still (lawful-at graph s h n)
    go (inr e) = gathered-at graph s q h t n i (value_at (entries s i) t) (subst (λ (j : ℕ). due graph s t j ≡ true) (sym e.0) (gather-due graph s t n0 i a))
        (subst (λ (j : ℕ). (is_in i (inputs_of (node_at graph j)) || is_candidate s j i) ≡ true) (sym e.0) (gather-asked graph s t n0 i a)) still e.1
step-at graph s (steps.Evaluate t n0) h a n = go (changed-work s n0 (keep_found (found_now graph s t n0)) n)
  where
    q : Core
    q = apply graph s (steps.Evaluate t n0)

    p : Core
    p = with_cell s n0 (keep_found (found_now graph s t n0))

    still : Still graph s q n
    still = quiet-still graph s (steps.Evaluate t n0) h a refl n

    go : SameWork s p n ⊎ ((n ≡ n0) × (cell p n ≡ keep_found (found_now graph s t n0) (cell s n))) → WorkAt graph q n
    go (inl w) = kept-at graph s q n (record { gathered = w.gathered; found = w.found; body = w.body }) still (lawful-at graph s h n)
    go (inr e) = evaluated-at graph s q h t n (found_now graph s t n0) (subst (λ (j : ℕ). at_front graph s t j ≡ true) (sym e.0) (evaluate-at_front graph s t n0 a)) (subst (λ (j : ℕ). touched graph s t j ≡ true) (sym e.0) (evaluate-touched graph s t n0 a))
        (subst (λ (j : ℕ). all_gathered s j (inputs_of (node_at graph j)) ≡ true) (sym e.0) (evaluate-gathered graph s t n0 a)) (subst (λ (j : ℕ). is_found s j ≡ false) (sym e.0) (evaluate-not_found graph s t n0 a)) still e.1
step-at graph s (steps.Body t n0) h a n = go (changed-work s n0 (keep_body (body_now graph s n0)) n)
  where
    q : Core
    q = apply graph s (steps.Body t n0)

    still : Still graph s q n
    still = quiet-still graph s (steps.Body t n0) h a refl n

    go : SameWork s q n ⊎ ((n ≡ n0) × (cell q n ≡ keep_body (body_now graph s n0) (cell s n))) → WorkAt graph q n
    go (inl w) = kept-at graph s q n w still (lawful-at graph s h n)
    go (inr e) = body-at graph s q h n (body_now graph s n0) (subst (λ (j : ℕ). is_found s j ≡ true) (sym e.0) (body-found graph s t n0 a)) (subst (λ (j : ℕ). all_gathered s j (found_candidates s j) ≡ true) (sym e.0) (body-gathered graph s t n0 a)) still e.1
step-at graph s (steps.Resolve t n0) h a n = go (resolved-work graph s h t n0 a n)
  where
    q : Core
    q = apply graph s (steps.Resolve t n0)

    go : ((n ≡ n0) × ((cell q n).gathered ≡ []) × ((cell q n).found ≡ None) × ((cell q n).body ≡ None)) ⊎ (((n == n0) ≡ false) × SameWork s q n × (entries q n ≡ entries s n)) → WorkAt graph q n
    go (inl e) = empty-at graph q n e.1 e.2 e.3
    go (inr e) = kept-at graph s q n e.1 (same-still graph s (steps.Resolve t n0) h a n e.2) (lawful-at graph s h n)
step-at graph s (steps.Discover t n0 c) h a n = quiet-at graph s (steps.Discover t n0 c) h a refl refl n
step-at graph s (steps.Drop t n0 o) h a n = quiet-at graph s (steps.Drop t n0 o) h a refl refl n
step-at graph s (steps.Mark t n0) h a n = quiet-at graph s (steps.Mark t n0) h a refl refl n
step-at graph s (steps.Look t) h a n = quiet-at graph s (steps.Look t) h a refl refl n
step-at graph s (steps.End t) h a n = quiet-at graph s (steps.End t) h a refl refl n
step-at graph s (steps.Collect n0) h a n = quiet-at graph s (steps.Collect n0) h a refl refl n

-- ---- the fact

pub step-WorkIsKept : (graph : Graph) (s : Core) (step : Step) → IsLawful graph s → allowed graph s step ≡ true → WorkIsKept graph (apply graph s step)
step-WorkIsKept graph s step h a = record {
  gathers = λ n. (step-at graph s step h a n).gathers;
  gathers_right = λ n. (step-at graph s step h a n).gathers_right;
  finds = λ n. (step-at graph s step h a n).finds;
  finds_last = λ n. (step-at graph s step h a n).finds_last;
  bodies = λ n. (step-at graph s step h a n).bodies;
  drops = step-drops graph s step h a;
  discovers = step-discovers graph s step h a;
}

-- ---- a beginning

-- The calls that are first open are read as before.
begun-working : (graph : Graph) (s : Core) → IsLawful graph s → (caller : ℕ) (c : Call) (n u : ℕ) → heads s u n ≡ true → IsWorking graph s n u → IsWorking graph (begin graph s caller c) n u
begun-working graph s h caller c n u hd w = go (begin-call graph s h caller c u)
  where
    q : Core
    q = begin graph s caller c

    go : ((call_of q.calls u ≡ call_of s.calls u) × ((suc s.begun == u) ≡ false)) ⊎ ((u ≡ suc s.begun) × (call_of q.calls u ≡ Some (new_call graph s caller c))) → IsWorking graph q n u
    go (inl e) = record {
      executing = ap (λ (o : Option LiveCall). (call_or o).executing) e.0 ∙ w.executing;
      changed = ap (λ (o : Option LiveCall). not (is_source (node_at graph n)) && list_any (λ m. is_in m (call_or o).changed) (deps graph s u n)) e.0 ∙ w.changed;
      no_open = ap (λ (o : Option LiveCall). list_any (λ m. is_in m (call_or o).open_nodes || is_in m (call_or o).wanted) (deps graph s u n)) e.0 ∙ w.no_open;
    }
    go (inr e) = absurd (both_ways _ (not_begun-entry graph s h n) (subst (λ (v : ℕ). has (entries s n) v ≡ true) e.0 (at-has is_frame (entries s n) u (head-live graph s h u n hd))))

pub begin-WorkIsKept : (graph : Graph) (s : Core) (caller : ℕ) (c : Call) → IsLawful graph s → WorkIsKept graph (begin graph s caller c)
begin-WorkIsKept graph s caller c h = record {
  gathers = λ n m k. some n (h.work_is_kept.gathers n m k);
  gathers_right = h.work_is_kept.gathers_right;
  finds = λ n k. some n (h.work_is_kept.finds n k);
  finds_last = h.work_is_kept.finds_last;
  bodies = h.work_is_kept.bodies;
  drops = h.work_is_kept.drops;
  discovers = h.work_is_kept.discovers;
}
  where
    some : (n : ℕ) → SomeHead s n (IsWorking graph s n) → SomeHead (begin graph s caller c) n (IsWorking graph (begin graph s caller c) n)
    some n k = record { head = k.head; first = k.first; holds = begun-working graph s h caller c n k.head k.first k.holds }
