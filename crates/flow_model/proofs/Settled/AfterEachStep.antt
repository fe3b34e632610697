-- After each step and each beginning no Frame stands before a settled entry, and it is none.
use Rattle.std.proofs.Common.{◌≡◌, ℕ, suc, true, false, ◌⊎◌, ◌==◌, inl, inr, refl, sym, ap, length, true≢false, ◌∙◌, subst, Option, Some, None}
use Rattle.std.proofs.lemmas.Bool.{both_ways}
use Rattle.std.specs.Prelude.{is_some}
use Rattle.std.specs.Prelude.{take}
use Rattle.signal_graph.specs.declared.call.Call.{Call}
use Rattle.signal_graph.specs.Graph.{Graph, is_in}
use Rattle.node_versions.specs.Entries.{has, is_done}
use Rattle.node_versions.proofs.Places.{at-has}
use Rattle.flow_model.specs.declared.step.Step.{Step}
use Rattle.flow_model.specs.declared.step.Step.TheVariants as steps
use Rattle.flow_model.specs.Machine.State.{Core, LiveCall, call_of, call_or, live, entries, changes}
use Rattle.flow_model.specs.Machine.Steps.{allowed, apply, begin, new_call}
use Rattle.flow_model.specs.Kept.Runs.{looked_at, IsSettled, by_node, by_look}
use Rattle.flow_model.specs.Kept.Lawful.{IsLawful, SettledIsKept}
use Rattle.flow_model.proofs.Wants.FramedWith.{heads-opens}
use Rattle.flow_model.proofs.OneStep.WhoMayStep.{opens-live}
use Rattle.flow_model.proofs.OneStep.BegunCalls.{begin-call}
use Rattle.flow_model.proofs.OrderStays.AfterEachStep.{not_begun-entry}
use Rattle.flow_model.proofs.OneStep.VersionsStayFresh.{not_begun-live}
use Rattle.flow_model.proofs.OneList.PicksBefore.{same-picks}
use Rattle.flow_model.proofs.Settled.WhatSettles.{HowSettled, by_gather, by_leaving, by_drop, by_due, how, settled-by, settled-before, SettledStays}
use Rattle.flow_model.proofs.Settled.AfterOtherSteps.{started-settled, evaluated-settled, body-settled, marked-settled, discovered-settled, gathered-settled, looked-settled}
use Rattle.flow_model.proofs.Settled.AfterDones.{skipped-settled, resolved-settled}
use Rattle.flow_model.proofs.Settled.AfterEndAndCollect.{ended-settled, collected-settled}
use Rattle.flow_model.proofs.Settled.AfterDrop.{dropped-settled}
use Rattle.flow_model.proofs.Settled.AfterFrame.{framed-settled}

pub step-settled : (graph : Graph) (s : Core) (step : Step) → IsLawful graph s → allowed graph s step ≡ true → SettledStays graph (apply graph s step)
step-settled graph s (steps.Frame t n) h a = framed-settled graph s t n h a
step-settled graph s (steps.Start t) h a = started-settled graph s t h
step-settled graph s (steps.Skip t n) h a = skipped-settled graph s t n h a
step-settled graph s (steps.Gather t n m) h a = gathered-settled graph s t n m h a
step-settled graph s (steps.Evaluate t n) h a = evaluated-settled graph s t n h
step-settled graph s (steps.Body t n) h a = body-settled graph s t n h
step-settled graph s (steps.Resolve t n) h a = resolved-settled graph s t n h a
step-settled graph s (steps.Discover t n c) h a = discovered-settled graph s t n c h a
step-settled graph s (steps.Drop t n o) h a = dropped-settled graph s t n o h a
step-settled graph s (steps.Mark t m) h a = marked-settled graph s t m h a
step-settled graph s (steps.Look t) h a = looked-settled graph s t h a
step-settled graph s (steps.End t) h a = ended-settled graph s t h
step-settled graph s (steps.Collect n) h a = collected-settled graph s n h

pub step-SettledIsKept : (graph : Graph) (s : Core) (step : Step) → IsLawful graph s → allowed graph s step ≡ true → SettledIsKept graph (apply graph s step)
step-SettledIsKept graph s step h a = (step-settled graph s step h a).kept

pub step-settled_has_entry : (graph : Graph) (s : Core) (step : Step) → IsLawful graph s → allowed graph s step ≡ true → (u m : ℕ) → live (apply graph s step) u ≡ true → IsSettled graph (apply graph s step) u m → has (entries (apply graph s step) m) u ≡ true
step-settled_has_entry graph s step h a = (step-settled graph s step h a).has_entry

-- ---- a beginning

-- A call without entries that has looked at nothing has settled nothing.
unsettled : (graph : Graph) (s : Core) → IsLawful graph s → (u m : ℕ) → live s u ≡ false → ((n : ℕ) → has (entries s n) u ≡ false) → IsSettled graph s u m → ⊥
unsettled graph s h u m l absent (by_look k) = go (call_of s.calls u) refl k
  where
    go : (o : Option LiveCall) → call_of s.calls u ≡ o → is_in m (take (length (call_or o).looked) (call_or o).looks) ≡ true → ⊥
    go None e j = true≢false (sym j)
    go (Some c) e j = both_ways _ l (ap is_some e)
unsettled graph s h u m l absent (by_node n k) = go (how graph s u m n k)
  where
    go : HowSettled graph s u m n → ⊥
    go (by_gather x y) = both_ways _ l (opens-live s u n (heads-opens graph s h u n x))
    go (by_leaving p d y) = both_ways _ (absent n) (at-has is_done (entries s n) u d)
    go (by_drop p x y) = both_ways _ l (opens-live s u n (heads-opens graph s h u n x))
    go (by_due d y i) = both_ways _ (absent n) (at-has is_done (entries s n) u d)

begin-back : (graph : Graph) (s : Core) (caller : ℕ) (c : Call) → IsLawful graph s → (u m : ℕ) → IsSettled graph (begin graph s caller c) u m → IsSettled graph s u m
begin-back graph s caller c h u m k = go (begin-call graph s h caller c u) k
  where
    q : Core
    q = begin graph s caller c

    changed : ((call_of q.calls u ≡ call_of s.calls u) × ((suc s.begun == u) ≡ false)) ⊎ ((u ≡ suc s.begun) × (call_of q.calls u ≡ Some (new_call graph s caller c))) → (j : ℕ) → changes q u j ≡ true → changes s u j ≡ true
    changed (inl e) j x = subst (λ (o : Option LiveCall). is_in j (call_or o).changed ≡ true) e.0 x
    changed (inr e) j x = absurd (true≢false (sym (subst (λ (o : Option LiveCall). is_in j (call_or o).changed ≡ true) e.1 x)))

    looked : ((call_of q.calls u ≡ call_of s.calls u) × ((suc s.begun == u) ≡ false)) ⊎ ((u ≡ suc s.begun) × (call_of q.calls u ≡ Some (new_call graph s caller c))) → looked_at q u m ≡ true → looked_at s u m ≡ true
    looked (inl e) x = subst (λ (o : Option LiveCall). is_in m (take (length (call_or o).looked) (call_or o).looks) ≡ true) e.0 x
    looked (inr e) x = absurd (true≢false (sym (subst (λ (o : Option LiveCall). is_in m (take (length (call_or o).looked) (call_or o).looks) ≡ true) e.1 x)))

    go : ((call_of q.calls u ≡ call_of s.calls u) × ((suc s.begun == u) ≡ false)) ⊎ ((u ≡ suc s.begun) × (call_of q.calls u ≡ Some (new_call graph s caller c))) → IsSettled graph q u m → IsSettled graph s u m
    go e (by_look x) = by_look (looked e x)
    go e (by_node n x) = by_node n (settled-by graph s u m n (settled-before graph s q u m n (same-picks (entries s n) (entries q n) u refl) (changed e) (λ y. y) (λ y. y) (how graph q u m n x)))

pub begin-SettledIsKept : (graph : Graph) (s : Core) (caller : ℕ) (c : Call) → IsLawful graph s → SettledIsKept graph (begin graph s caller c)
begin-SettledIsKept graph s caller c h = record {
  none_before = λ u v m k b. h.settled_is_kept.none_before u v m (begin-back graph s caller c h v m k) b;
  no_frame = λ v m k. h.settled_is_kept.no_frame v m (begin-back graph s caller c h v m k);
}

pub begin-settled_has_entry : (graph : Graph) (s : Core) (caller : ℕ) (c : Call) → IsLawful graph s → (u m : ℕ) → live (begin graph s caller c) u ≡ true → IsSettled graph (begin graph s caller c) u m → has (entries (begin graph s caller c) m) u ≡ true
begin-settled_has_entry graph s caller c h u m l k = go (begin-call graph s h caller c u) (begin-back graph s caller c h u m k)
  where
    go : ((call_of (begin graph s caller c).calls u ≡ call_of s.calls u) × ((suc s.begun == u) ≡ false)) ⊎ ((u ≡ suc s.begun) × (call_of (begin graph s caller c).calls u ≡ Some (new_call graph s caller c))) → IsSettled graph s u m → has (entries s m) u ≡ true
    go (inl e) j = h.settled_has_entry u m (sym (ap is_some e.0) ∙ l) j
    go (inr e) j = absurd (unsettled graph s h u m (subst (λ (v : ℕ). live s v ≡ false) (sym e.0) (not_begun-live s h.versions_are_fresh)) (λ n. subst (λ (v : ℕ). has (entries s n) v ≡ false) (sym e.0) (not_begun-entry graph s h n)) j)
