-- Each step and each beginning leaves every call with no more looks taken than it asks for.
use Rattle.std.proofs.Common.{◌≡◌, ℕ, suc, ◌<◌, ◌≤◌, true, false, ◌==◌, ◌⊎◌, inl, inr, refl, sym, ap, arith, [], ◌∷◌, ◌++◌, length, true≢false, ◌∙◌, subst, Option, Some, None, length-append}
use Rattle.std.proofs.lemmas.Bool.{eqb-true, eqb-false, cases_Bool}
use Rattle.std.proofs.lemmas.Option.{slice_get_within}
use Rattle.std.specs.Prelude.{is_some}
use Rattle.script_tree.specs.declared.value.Value.{Value}
use Rattle.script_tree.proofs.Truths.{and_right}
use Rattle.signal_graph.specs.declared.call.Call.{Call}
use Rattle.signal_graph.specs.Graph.{Graph}
use Rattle.flow_model.specs.declared.step.Step.{Step}
use Rattle.flow_model.specs.declared.step.Step.TheVariants as steps
use Rattle.flow_model.specs.Machine.State.{Core, LiveCall, call, call_of, call_or, live}
use Rattle.flow_model.specs.Machine.Words.{next_look}
use Rattle.flow_model.specs.Machine.Steps.{allowed, apply, begin, new_call, with_look, look_value, served_look}
use Rattle.flow_model.specs.Kept.Lawful.{IsLawful, LooksAreFew}
use Rattle.flow_model.proofs.OneList.CallsAndCells.{with_call-field, change_call-other}
use Rattle.flow_model.proofs.OneStep.BegunCalls.{begin-call}
use Rattle.flow_model.proofs.OneStep.WhoLivesAndFrames.{step-phases}
use Rattle.flow_model.proofs.OneStep.SameCallers.{phase-live}
use Rattle.flow_model.proofs.OneStep.WhatStepsLeave.{IsLook, step-field, looks-stay, looked-stays}

plain-fit : (graph : Graph) (s : Core) (step : Step) → IsLawful graph s → allowed graph s step ≡ true → (IsLook step → ⊥) → LooksAreFew (apply graph s step)
plain-fit graph s step h a ne u l =
    let e = ap length (step-field (λ c. c.looked) graph s step (looked-stays step ne) u l) in
    let d = ap length (step-field (λ c. c.looks) graph s step (looks-stay step) u l) in
    let k = h.looks_are_few u (phase-live s (apply graph s step) (step-phases graph s step a) u l) in
    omega (arith, e, d, k)

next-there : (s : Core) (t : ℕ) (o : Option ℕ) → next_look s t ≡ o → served_look s t o ≡ true → length (call s t).looked < length (call s t).looks
next-there s t None e k = absurd (true≢false (sym k))
next-there s t (Some m) e k = slice_get_within (call s t).looks (length (call s t).looked) m e

look-served : (graph : Graph) (s : Core) (t : ℕ) → allowed graph s (steps.Look t) ≡ true → served_look s t (next_look s t) ≡ true
look-served graph s t a = and_right _ _ a

look-fit : (graph : Graph) (s : Core) (t : ℕ) → IsLawful graph s → allowed graph s (steps.Look t) ≡ true → LooksAreFew (apply graph s (steps.Look t))
look-fit graph s t h a u l = go (cases_Bool (u == t))
  where
    x : Value
    x = look_value s t (next_look s t)

    ls : live s u ≡ true
    ls = phase-live s (apply graph s (steps.Look t)) (step-phases graph s (steps.Look t) a) u l

    looks : (call (apply graph s (steps.Look t)) u).looks ≡ (call s u).looks
    looks = step-field (λ c. c.looks) graph s (steps.Look t) (looks-stay (steps.Look t)) u l

    room : length (call s t).looked < length (call s t).looks
    room = next-there s t (next_look s t) refl (look-served graph s t a)

    go : ((u == t) ≡ true) ⊎ ((u == t) ≡ false) → length (call (apply graph s (steps.Look t)) u).looked ≤ length (call (apply graph s (steps.Look t)) u).looks
    go (inl e) =
        let it = eqb-true u t e in
        let field = with_call-field (λ c. c.looked) s t (with_look x) (λ c. refl) u (subst (λ (j : ℕ). live s j ≡ true) it ls) in
        let mine : (call (apply graph s (steps.Look t)) u).looked ≡ (call s t).looked ++ x ∷ [] = field ∙ rw e refl in
        let p = ap length mine ∙ length-append (call s t).looked (x ∷ []) in
        let q = ap length looks ∙ ap (λ (j : ℕ). length (call s j).looks) it in
        omega (arith, p, q, room)
    go (inr e) =
        let k = h.looks_are_few u ls in
        let other : (call (apply graph s (steps.Look t)) u).looked ≡ (call s u).looked = ap (λ (o : Option LiveCall). (call_or o).looked) (change_call-other t u (with_look x) (λ c. refl) s.calls (eqb-false u t e)) in
        let p = ap length other in
        let q = ap length looks in
        omega (arith, p, q, k)

pub step-LooksAreFew : (graph : Graph) (s : Core) (step : Step) → IsLawful graph s → allowed graph s step ≡ true → LooksAreFew (apply graph s step)
step-LooksAreFew graph s (steps.Frame t n) h a = plain-fit graph s (steps.Frame t n) h a (λ k. k)
step-LooksAreFew graph s (steps.Start t) h a = plain-fit graph s (steps.Start t) h a (λ k. k)
step-LooksAreFew graph s (steps.Skip t n) h a = plain-fit graph s (steps.Skip t n) h a (λ k. k)
step-LooksAreFew graph s (steps.Gather t n m) h a = plain-fit graph s (steps.Gather t n m) h a (λ k. k)
step-LooksAreFew graph s (steps.Evaluate t n) h a = plain-fit graph s (steps.Evaluate t n) h a (λ k. k)
step-LooksAreFew graph s (steps.Body t n) h a = plain-fit graph s (steps.Body t n) h a (λ k. k)
step-LooksAreFew graph s (steps.Resolve t n) h a = plain-fit graph s (steps.Resolve t n) h a (λ k. k)
step-LooksAreFew graph s (steps.Discover t n c) h a = plain-fit graph s (steps.Discover t n c) h a (λ k. k)
step-LooksAreFew graph s (steps.Drop t n o) h a = plain-fit graph s (steps.Drop t n o) h a (λ k. k)
step-LooksAreFew graph s (steps.Mark t m) h a = plain-fit graph s (steps.Mark t m) h a (λ k. k)
step-LooksAreFew graph s (steps.Look t) h a = look-fit graph s t h a
step-LooksAreFew graph s (steps.End t) h a = plain-fit graph s (steps.End t) h a (λ k. k)
step-LooksAreFew graph s (steps.Collect n) h a = plain-fit graph s (steps.Collect n) h a (λ k. k)

pub begin-LooksAreFew : (graph : Graph) (s : Core) (caller : ℕ) (c : Call) → IsLawful graph s → LooksAreFew (begin graph s caller c)
begin-LooksAreFew graph s caller c h u l = go (begin-call graph s h caller c u)
  where
    none : (n : ℕ) → 0 ≤ n
    none n = omega arith

    go : ((call_of (begin graph s caller c).calls u ≡ call_of s.calls u) × ((suc s.begun == u) ≡ false)) ⊎ ((u ≡ suc s.begun) × (call_of (begin graph s caller c).calls u ≡ Some (new_call graph s caller c)))
        → length (call (begin graph s caller c) u).looked ≤ length (call (begin graph s caller c) u).looks
    go (inl e) = subst (λ (o : Option LiveCall). length (call_or o).looked ≤ length (call_or o).looks) (sym e.0) (h.looks_are_few u (sym (ap is_some e.0) ∙ l))
    go (inr e) = subst (λ (o : Option LiveCall). length (call_or o).looked ≤ length (call_or o).looks) (sym e.1) (none (length (new_call graph s caller c).looks))
