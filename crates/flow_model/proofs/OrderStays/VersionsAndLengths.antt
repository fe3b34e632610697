-- Each step keeps the versions apart, the lists as many as the nodes, and each list within its room.
use Rattle.std.proofs.Common.{◌≡◌, ℕ, ◌+◌, ◌≤◌, Bool, true, false, refl, sym, length, ◌∙◌, subst}
use Rattle.signal_graph.specs.Graph.{Graph}
use Rattle.node_versions.specs.declared.entry.State.TheVariants.{Mark, Frame}
use Rattle.node_versions.specs.Entries.{has, at, is_mark}
use Rattle.flow_model.specs.declared.step.Step.{Step}
use Rattle.flow_model.specs.declared.step.Step.TheVariants as steps
use Rattle.flow_model.specs.Machine.State.{Core, LiveCall, entries, with_cell, with_call}
use Rattle.flow_model.specs.Machine.Changes.{enter, raise, ensure_mark, opened, closed, tell_call, add_edge}
use Rattle.flow_model.specs.Machine.Words.{active_outs}
use Rattle.flow_model.specs.Machine.Steps.{allowed, apply, open_node, frame, started, counted, is_change}
use Rattle.flow_model.specs.Kept.Lawful.{IsLawful, VersionsAreFresh}
use Rattle.flow_model.proofs.OneStep.WhoMayStep.{executes-live, idle-executes, end-idle}
use Rattle.flow_model.proofs.OneStep.SameLengths.{step-parts}
use Rattle.flow_model.proofs.OneStep.ChangesOfOneList.{step-list}
use Rattle.flow_model.proofs.OrderStays.EntriesAndRoom.{list-room}
use Rattle.flow_model.proofs.OneStep.VersionsStayFresh.{SameCalls, same-VersionsAreFresh, change_call-versions, map-versions, end-VersionsAreFresh}

changed_call : (s : Core) (q : Core) (t : ℕ) (f : LiveCall → LiveCall) → ((c : LiveCall) → (f c).version ≡ c.version) → SameCalls s q → SameCalls s (with_call q t f)
changed_call s q t f k h = record { calls = change_call-versions t f k q.calls ∙ h.calls; log = h.log; begun = h.begun }

same : (s : Core) → SameCalls s s
same s = record { calls = refl; log = refl; begun = refl }

ensured : (s : Core) (t m : ℕ) → SameCalls s (ensure_mark s t m)
ensured s t m = go (has (entries s m) t)
  where
    go : (b : Bool) → SameCalls s (elim b [ true ↦ s | false ↦ enter s t m Mark ])
    go true = same s
    go false = record { calls = refl; log = refl; begun = refl }

framed : (graph : Graph) (s : Core) (t n : ℕ) → SameCalls s (frame graph s t n)
framed graph s t n = go (at is_mark (entries s n) t)
  where
    go : (b : Bool) → SameCalls s (elim b [ true ↦ open_node graph (raise s t n) t n | false ↦ open_node graph (enter s t n Frame) t n ])
    go true = record { calls = change_call-versions t (opened n (active_outs graph (raise s t n) t n)) (λ c. refl) s.calls; log = refl; begun = refl }
    go false = record { calls = change_call-versions t (opened n (active_outs graph (enter s t n Frame) t n)) (λ c. refl) s.calls; log = refl; begun = refl }

pub step-VersionsAreFresh : (graph : Graph) (s : Core) (step : Step) → IsLawful graph s → allowed graph s step ≡ true → VersionsAreFresh (apply graph s step)
step-VersionsAreFresh graph s (steps.Frame t n) h a = same-VersionsAreFresh s (apply graph s (steps.Frame t n)) (framed graph s t n) h.versions_are_fresh
step-VersionsAreFresh graph s (steps.Start t) h a = same-VersionsAreFresh s (apply graph s (steps.Start t)) (changed_call s s t started (λ c. refl) (same s)) h.versions_are_fresh
step-VersionsAreFresh graph s (steps.Skip t n) h a = same-VersionsAreFresh s (apply graph s (steps.Skip t n)) (record { calls = change_call-versions t (closed n false) (λ c. refl) s.calls; log = refl; begun = refl }) h.versions_are_fresh
step-VersionsAreFresh graph s (steps.Gather t n m) h a = same-VersionsAreFresh s (apply graph s (steps.Gather t n m)) (record { calls = refl; log = refl; begun = refl }) h.versions_are_fresh
step-VersionsAreFresh graph s (steps.Evaluate t n) h a = same-VersionsAreFresh s (apply graph s (steps.Evaluate t n)) (record { calls = change_call-versions t counted (λ c. refl) s.calls; log = refl; begun = refl }) h.versions_are_fresh
step-VersionsAreFresh graph s (steps.Body t n) h a = same-VersionsAreFresh s (apply graph s (steps.Body t n)) (record { calls = refl; log = refl; begun = refl }) h.versions_are_fresh
step-VersionsAreFresh graph s (steps.Resolve t n) h a = same-VersionsAreFresh s (apply graph s (steps.Resolve t n)) (record { calls = change_call-versions t (closed n (is_change graph s t n)) (λ c. refl) s.calls; log = refl; begun = refl }) h.versions_are_fresh
step-VersionsAreFresh graph s (steps.Discover t n c) h a =
    let e = ensured s t c in
    let q = with_cell (ensure_mark s t c) c (add_edge n t) in
    same-VersionsAreFresh s (apply graph s (steps.Discover t n c)) (record { calls = map-versions (tell_call (entries q c) t n) (λ c. refl) q.calls ∙ e.calls; log = e.log; begun = e.begun }) h.versions_are_fresh
step-VersionsAreFresh graph s (steps.Drop t n o) h a = let e = ensured s t o in same-VersionsAreFresh s (apply graph s (steps.Drop t n o)) (record { calls = e.calls; log = e.log; begun = e.begun }) h.versions_are_fresh
step-VersionsAreFresh graph s (steps.Mark t m) h a = same-VersionsAreFresh s (apply graph s (steps.Mark t m)) (record { calls = refl; log = refl; begun = refl }) h.versions_are_fresh
step-VersionsAreFresh graph s (steps.Look t) h a = same-VersionsAreFresh s (apply graph s (steps.Look t)) (changed_call s s t _ (λ c. refl) (same s)) h.versions_are_fresh
step-VersionsAreFresh graph s (steps.End t) h a = end-VersionsAreFresh s (apply graph s (steps.End t)) t (refl, refl, refl) h.versions_are_fresh (executes-live s t (idle-executes s t (end-idle graph s t a)))
step-VersionsAreFresh graph s (steps.Collect n) h a = same-VersionsAreFresh s (apply graph s (steps.Collect n)) (record { calls = refl; log = refl; begun = refl }) h.versions_are_fresh

pub step-lists : (graph : Graph) (s : Core) (step : Step) → IsLawful graph s → length (apply graph s step).cells ≡ length graph.nodes
step-lists graph s step h = (step-parts graph s step).cells ∙ h.lists

pub step-room : (graph : Graph) (s : Core) (step : Step) → IsLawful graph s → allowed graph s step ≡ true → (n : ℕ) → length (entries (apply graph s step) n) ≤ (apply graph s step).callers + 9
step-room graph s step h a n = subst (λ (k : ℕ). length (entries (apply graph s step) n) ≤ k + 9) (sym (step-parts graph s step).callers) (list-room graph s n (h.room_is_kept.room n) (entries (apply graph s step) n) (step-list graph s step h a n))
