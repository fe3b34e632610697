-- What is found at a node stays through each step that finishes nowhere, and a Skip or Resolve leaves the work at other nodes.
use Rattle.std.proofs.Common.{◌≡◌, ℕ, ◌<◌, length, Bool, true, false, ◌==◌, ◌⊎◌, inl, inr, refl, sym, ap, List, [], true≢false, ◌∙◌, subst, Option, None}
use Rattle.std.proofs.lemmas.Bool.{eqb-true, both_ways, cases_Bool}
use Rattle.script_tree.specs.declared.value.Value.{Value}
use Rattle.signal_graph.specs.Graph.{Graph}
use Rattle.node_versions.specs.declared.entry.State.TheVariants.{Done}
use Rattle.node_versions.specs.Entries.{with_state, picks_before, value_before, value_at}
use Rattle.flow_model.specs.declared.step.Step.{Step}
use Rattle.flow_model.specs.declared.step.Step.TheVariants as steps
use Rattle.flow_model.specs.Machine.State.{Core, Cell, cell, entries, with_cell}
use Rattle.flow_model.specs.Machine.Words.{heads, touched, is_found, found_now, body_now, found_picks, value_now}
use Rattle.flow_model.specs.Machine.Changes.{set_state, cleared, finish}
use Rattle.flow_model.specs.Machine.Steps.{allowed, apply, gather, keep_found, keep_body, is_change}
use Rattle.flow_model.specs.Kept.Lawful.{IsLawful}
use Rattle.flow_model.proofs.OneStep.WhoMayStep.{can_work-at_front, at_front-heads, skip-can_work, resolve-can_work}
use Rattle.flow_model.proofs.OneStep.SameLengths.{change_at-length}
use Rattle.flow_model.proofs.OrderStays.OpenNodesHaveFrames.{cell-there, cell-other}
use Rattle.flow_model.proofs.FramesSpread.AfterDones.{heads-same, skip-untouched}
use Rattle.flow_model.proofs.OneStep.QuietSteps.{finishes, skipped-list, SameWork, step-work, changed-work}
use Rattle.flow_model.proofs.OneStep.FirstOpenCalls.{head-there}
use Rattle.flow_model.proofs.Work.WorkAtOneNode.{Still, same-still, evaluate-not_found}

-- ---- what was found stays

pub step-found : (graph : Graph) (s : Core) (step : Step) → allowed graph s step ≡ true → finishes step ≡ false → (n : ℕ) → is_found s n ≡ true → (cell (apply graph s step) n).found ≡ (cell s n).found
step-found graph s (steps.Frame t n0) a f n k = (step-work graph s (steps.Frame t n0) refl n).found
step-found graph s (steps.Start t) a f n k = refl
step-found graph s (steps.Skip t n0) a f n k = absurd (true≢false f)
step-found graph s (steps.Gather t n0 i) a f n k = go (changed-work s n0 (gather i (value_at (entries s i) t)) n)
  where
    go : SameWork s (apply graph s (steps.Gather t n0 i)) n ⊎ ((n ≡ n0) × (cell (apply graph s (steps.Gather t n0 i)) n ≡ gather i (value_at (entries s i) t) (cell s n))) → (cell (apply graph s (steps.Gather t n0 i)) n).found ≡ (cell s n).found
    go (inl w) = w.found
    go (inr e) = ap (λ (c : Cell). c.found) e.1
step-found graph s (steps.Evaluate t n0) a f n k = go (changed-work s n0 (keep_found (found_now graph s t n0)) n)
  where
    go : SameWork s (with_cell s n0 (keep_found (found_now graph s t n0))) n ⊎ ((n ≡ n0) × (cell (with_cell s n0 (keep_found (found_now graph s t n0))) n ≡ keep_found (found_now graph s t n0) (cell s n))) → (cell (with_cell s n0 (keep_found (found_now graph s t n0))) n).found ≡ (cell s n).found
    go (inl w) = w.found
    go (inr e) = absurd (both_ways _ (evaluate-not_found graph s t n0 a) (subst (λ (j : ℕ). is_found s j ≡ true) e.0 k))
step-found graph s (steps.Body t n0) a f n k = go (changed-work s n0 (keep_body (body_now graph s n0)) n)
  where
    go : SameWork s (apply graph s (steps.Body t n0)) n ⊎ ((n ≡ n0) × (cell (apply graph s (steps.Body t n0)) n ≡ keep_body (body_now graph s n0) (cell s n))) → (cell (apply graph s (steps.Body t n0)) n).found ≡ (cell s n).found
    go (inl w) = w.found
    go (inr e) = ap (λ (c : Cell). c.found) e.1
step-found graph s (steps.Resolve t n0) a f n k = absurd (true≢false f)
step-found graph s (steps.Discover t n0 c) a f n k = (step-work graph s (steps.Discover t n0 c) refl n).found
step-found graph s (steps.Drop t n0 o) a f n k = (step-work graph s (steps.Drop t n0 o) refl n).found
step-found graph s (steps.Mark t n0) a f n k = (step-work graph s (steps.Mark t n0) refl n).found
step-found graph s (steps.Look t) a f n k = refl
step-found graph s (steps.End t) a f n k = refl
step-found graph s (steps.Collect n0) a f n k = (step-work graph s (steps.Collect n0) refl n).found

-- the work at the node of a Resolve, and at another
pub resolved-work : (graph : Graph) (s : Core) → IsLawful graph s → (t n0 : ℕ) → allowed graph s (steps.Resolve t n0) ≡ true → (n : ℕ)
    → ((n ≡ n0) × ((cell (apply graph s (steps.Resolve t n0)) n).gathered ≡ []) × ((cell (apply graph s (steps.Resolve t n0)) n).found ≡ None) × ((cell (apply graph s (steps.Resolve t n0)) n).body ≡ None))
    ⊎ (((n == n0) ≡ false) × SameWork s (apply graph s (steps.Resolve t n0)) n × (entries (apply graph s (steps.Resolve t n0)) n ≡ entries s n))
resolved-work graph s h t n0 a n = go (cases_Bool (n == n0))
  where
    v : Value
    v = value_now graph s t n0

    b : Bool
    b = is_change graph s t n0

    ps : List (Option ℕ)
    ps = found_picks s n0

    p : Core
    p = finish s t n0 v b ps

    q : Core
    q = apply graph s (steps.Resolve t n0)

    there : n0 < length p.cells
    there = subst (λ (j : ℕ). n0 < j) (sym (change_at-length n0 (set_state t (Done v b ps)) s.cells)) (head-there graph s h t n0 (at_front-heads graph s t n0 (can_work-at_front graph s t n0 (resolve-can_work graph s t n0 a))))

    same : (n == n0) ≡ false → cell q n ≡ cell s n
    same ne = cell-other p n0 n cleared ne ∙ cell-other s n0 n (set_state t (Done v b ps)) ne

    go : ((n == n0) ≡ true) ⊎ ((n == n0) ≡ false)
        → ((n ≡ n0) × ((cell q n).gathered ≡ []) × ((cell q n).found ≡ None) × ((cell q n).body ≡ None)) ⊎ (((n == n0) ≡ false) × SameWork s q n × (entries q n ≡ entries s n))
    go (inl e) = let j = eqb-true n n0 e in let c : cell q n ≡ cleared (cell p n0) = ap (cell q) j ∙ cell-there p n0 cleared there in inl (j, ap (λ (x : Cell). x.gathered) c, ap (λ (x : Cell). x.found) c, ap (λ (x : Cell). x.body) c)
    go (inr ne) = let c = same ne in inr (ne, record { gathered = ap (λ (x : Cell). x.gathered) c; found = ap (λ (x : Cell). x.found) c; body = ap (λ (x : Cell). x.body) c }, ap (λ (x : Cell). x.entries) c)

-- A call that skips a node works at none of it, so all work goes on.
pub skipped-still : (graph : Graph) (s : Core) → IsLawful graph s → (t n0 : ℕ) → allowed graph s (steps.Skip t n0) ≡ true → (n : ℕ) → Still graph s (apply graph s (steps.Skip t n0)) n
skipped-still graph s h t n0 a n = go (skipped-list graph s t n0 n)
  where
    go : (entries (apply graph s (steps.Skip t n0)) n ≡ entries s n) ⊎ ((n ≡ n0) × (entries (apply graph s (steps.Skip t n0)) n ≡ with_state t (Done (value_before (entries s n0) t) false (picks_before (entries s n0) t)) (entries s n))) → Still graph s (apply graph s (steps.Skip t n0)) n
    go (inl e) = same-still graph s (steps.Skip t n0) h a n e
    go (inr e) = λ u hd w. absurd (both_ways _ (skip-untouched graph s t n0 a) (subst (λ (j : ℕ). touched graph s t j ≡ true) e.0
        (subst (λ (x : ℕ). touched graph s x n ≡ true) (heads-same s t u n (subst (λ (j : ℕ). heads s t j ≡ true) (sym e.0) (at_front-heads graph s t n0 (can_work-at_front graph s t n0 (skip-can_work graph s t n0 a)))) hd) w.changed)))
