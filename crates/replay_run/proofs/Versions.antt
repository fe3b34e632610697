-- Whose live call has which version, after a step and after a beginning.
use Rattle.std.proofs.Common.{◌≡◌, ℕ, suc, Bool, true, false, ◌==◌, ◌⊎◌, inl, inr, refl, sym, ap, arith, List, [], ◌∷◌, ◌++◌, length, length-append, true≢false, ◌∙◌, Option, Some, None}
use Rattle.std.specs.Prelude.{is_some}
use Rattle.std.proofs.lemmas.Bool.Decides.{eqb_tells}
use Rattle.std.proofs.lemmas.Bool.{eqb-true, eq-eqb, false_from_ne_true, both_ways, cases_Bool}
use Rattle.signal_graph.specs.declared.call.Call.{Call}
use Rattle.signal_graph.specs.declared.log.Logged.{Logged}
use Rattle.signal_graph.specs.Graph.{Graph}
use Rattle.flow_model.specs.declared.step.Step.{Step}
use Rattle.flow_model.specs.declared.step.Step.TheVariants as steps
use Rattle.flow_model.specs.Machine.State.{Core, LiveCall, call, call_of, call_or, live}
use Rattle.flow_model.specs.Machine.Steps.{allowed, apply, begin, new_call, without_call, has_call, logged}
use Rattle.flow_model.specs.Machine.Next.{lesser}
use Rattle.flow_model.specs.Machine.Schedules.{version_of}
use Rattle.flow_model.specs.Kept.Lawful.{IsLawful}
use Rattle.flow_model.proofs.General.AnyAndAll.{some-same}
use Rattle.flow_model.proofs.OneList.CallsAndCells.{without_call-other, without_call-same}
use Rattle.flow_model.proofs.OneStep.BegunCalls.{calls-distinct, reads-in}
use Rattle.flow_model.proofs.Together.WorkIsAllowed.{least-none}
use Rattle.flow_model.proofs.Callers.OnlyBeginningsAdd.{makers, MakerStep, SameMakers, stays, logs, step-makers}
use Rattle.flow_model.proofs.OrderStays.AfterEachStep.{ensure_mark-log, frame-log}
use Rattle.flow_model.proofs.Together.NextIsAllowed.{least-passes}
use Rattle.flow_model.proofs.Schedules.SchedulesMakeHistories.{idle-version}
use Rattle.replay_run.proofs.NoEnd.{ends_call}

-- ---- versions follow from whose calls live

abbrev held : ℕ → List (ℕ × (ℕ × Call)) → Option ℕ
held k [] = None
held k (p ∷ ps) = elim (p.0 == k) [ true ↦ Some (lesser p.1.0 (held k ps)) | false ↦ held k ps ]

version-held : (k : ℕ) (cs : List LiveCall) → version_of k cs ≡ held k (makers cs)
version-held k [] = refl
version-held k (c ∷ cs) = go (c.caller == k) (version-held k cs)
  where
    go : (b : Bool) → version_of k cs ≡ held k (makers cs)
        → elim b as (λ _. Option ℕ) [ true ↦ Some (lesser c.version (version_of k cs)) | false ↦ version_of k cs ] ≡ elim b as (λ _. Option ℕ) [ true ↦ Some (lesser c.version (held k (makers cs))) | false ↦ held k (makers cs) ]
    go true r = ap (λ (o : Option ℕ). Some (lesser c.version o)) r
    go false r = r

same-makers : (k : ℕ) (cs ds : List LiveCall) → makers cs ≡ makers ds → version_of k cs ≡ version_of k ds
same-makers k cs ds e = version-held k cs ∙ ap (held k) e ∙ sym (version-held k ds)

-- ---- the calls without one

without-none : (k t : ℕ) (cs : List LiveCall) → has_call k cs ≡ false → has_call k (without_call t cs) ≡ false
without-none k t [] h = refl
without-none k t (c ∷ cs) h = let r = without-none k t cs in grind (arith, eqb_tells, r, h)

-- ---- after a step

step-log : (graph : Graph) (s : Core) (step : Step) → ends_call step ≡ false → (apply graph s step).log ≡ s.log
step-log graph s (steps.Frame t n) e = frame-log graph s t n
step-log graph s (steps.Start t) e = refl
step-log graph s (steps.Skip t n) e = refl
step-log graph s (steps.Gather t n m) e = refl
step-log graph s (steps.Evaluate t n) e = refl
step-log graph s (steps.Body t n) e = refl
step-log graph s (steps.Resolve t n) e = refl
step-log graph s (steps.Discover t n c) e = ensure_mark-log s t c
step-log graph s (steps.Drop t n o) e = ensure_mark-log s t o
step-log graph s (steps.Mark t m) e = refl
step-log graph s (steps.Look t) e = refl
step-log graph s (steps.End t) e = absurd (true≢false e)
step-log graph s (steps.Collect n) e = refl

step-same : (graph : Graph) (s : Core) (step : Step) → allowed graph s step ≡ true → ends_call step ≡ false → SameMakers s (apply graph s step)
step-same graph s step a e = go (step-makers graph s step a)
  where
    longer : (log : List Logged) (x : Logged) → log ≡ log ++ x ∷ [] → ⊥
    longer log x f = let l = ap length f in let k = length-append log (x ∷ []) in absurd (omega (arith, l, k))

    go : MakerStep s (apply graph s step) → SameMakers s (apply graph s step)
    go (stays x) = x
    go (logs t x) = absurd (longer s.log (logged (call s t)) (sym (step-log graph s step e) ∙ x.log))

-- a step that is no End leaves each caller's version
pub step-version : (graph : Graph) (s : Core) (step : Step) → allowed graph s step ≡ true → ends_call step ≡ false → (k : ℕ)
    → version_of k (apply graph s step).calls ≡ version_of k s.calls
step-version graph s step a e k = same-makers k (apply graph s step).calls s.calls (step-same graph s step a e).calls

-- ---- after the end of a call

owner : (graph : Graph) (s : Core) → IsLawful graph s → (u k : ℕ) → live s u ≡ true → (call s u).caller ≡ k → version_of k s.calls ≡ Some u
owner graph s h u k l e = go (version_of k s.calls) refl
  where
    go : (o : Option ℕ) → version_of k s.calls ≡ o → version_of k s.calls ≡ Some u
    go None f = absurd (both_ways _ (least-none (λ c. c.caller == k) s.calls f) (reads-in (λ c. c.caller == k) s.calls u l (eq-eqb _ _ e)))
    go (Some v) f =
        let x = least-passes (λ c. c.caller == k) s.calls v (calls-distinct s h.versions_are_fresh) f in
        f ∙ ap (λ (n : ℕ). Some n) (h.room_is_kept.callers_apart v u x.known l (eqb-true (call s v).caller k x.passes ∙ sym e))

-- whose the call of a version is
pub owned : (graph : Graph) (s : Core) → IsLawful graph s → (u k : ℕ) → version_of k s.calls ≡ Some u → (live s u ≡ true) × ((call s u).caller ≡ k)
owned graph s h u k f = let x = least-passes (λ c. c.caller == k) s.calls u (calls-distinct s h.versions_are_fresh) f in (x.known, eqb-true (call s u).caller k x.passes)

end-reads : (graph : Graph) (s : Core) (t u : ℕ) → (u ≡ t → ⊥) → call_of (apply graph s (steps.End t)).calls u ≡ call_of s.calls u
end-reads graph s t u ne = without_call-other t u s.calls ne

-- the caller of the call that ends has none any more
pub end-version : (graph : Graph) (s : Core) (t k : ℕ) → IsLawful graph s → IsLawful graph (apply graph s (steps.End t)) → version_of k s.calls ≡ Some t
    → version_of k (apply graph s (steps.End t)).calls ≡ None
end-version graph s t k h g f = go (version_of k q.calls) refl
  where
    q : Core
    q = apply graph s (steps.End t)

    go : (o : Option ℕ) → version_of k q.calls ≡ o → version_of k q.calls ≡ None
    go None e = e
    go (Some u) e = absurd (at u (owned graph q g u k e) (cases_Bool (u == t)))
      where
        at : (u : ℕ) → (live q u ≡ true) × ((call q u).caller ≡ k) → ((u == t) ≡ true) ⊎ ((u == t) ≡ false) → ⊥
        at u x (inl same) = true≢false (sym x.0 ∙ ap (λ (n : ℕ). live q n) (eqb-true u t same) ∙ ap is_some (without_call-same t s.calls))
        at u x (inr other) =
            let ne : u ≡ t → ⊥ = λ p. both_ways _ other (eq-eqb u t p) in
            let r = end-reads graph s t u ne in
            let v = owner graph s h u k (sym (ap is_some r) ∙ x.0) (sym (ap (λ (o : Option LiveCall). (call_or o).caller) r) ∙ x.1) in
            ne (some-same u t (sym v ∙ f))

-- and each other caller has the same
pub end-others : (graph : Graph) (s : Core) (t k j : ℕ) → IsLawful graph s → IsLawful graph (apply graph s (steps.End t)) → version_of k s.calls ≡ Some t
    → (j ≡ k → ⊥) → version_of j (apply graph s (steps.End t)).calls ≡ version_of j s.calls
end-others graph s t k j h g f ne = go (version_of j s.calls) refl
  where
    q : Core
    q = apply graph s (steps.End t)

    go : (o : Option ℕ) → version_of j s.calls ≡ o → version_of j q.calls ≡ version_of j s.calls
    go None e = idle-version j q.calls (without-none j t s.calls (least-none (λ c. c.caller == j) s.calls e)) ∙ sym e
    go (Some u) e =
        let x = owned graph s h u j e in
        let apart : u ≡ t → ⊥ = λ p. ne (sym x.1 ∙ ap (λ (n : ℕ). (call s n).caller) p ∙ (owned graph s h t k f).1) in
        let r = end-reads graph s t u apart in
        owner graph q g u j (ap is_some r ∙ x.0) (ap (λ (o : Option LiveCall). (call_or o).caller) r ∙ x.1) ∙ sym e

-- ---- after a beginning

more-same : (k : ℕ) (cs : List LiveCall) (c : LiveCall) → version_of k cs ≡ None → (c.caller == k) ≡ true → version_of k (cs ++ c ∷ []) ≡ Some c.version
more-same k [] c none e = go (c.caller == k) e
  where
    go : (b : Bool) → b ≡ true → elim b as (λ _. Option ℕ) [ true ↦ Some (lesser c.version None) | false ↦ None ] ≡ Some c.version
    go true f = refl
    go false f = absurd (true≢false (sym f))
more-same k (x ∷ xs) c none e = let r = more-same k xs c in grind (arith, r, none, e)

more-other : (k : ℕ) (cs : List LiveCall) (c : LiveCall) → (c.caller == k) ≡ false → version_of k (cs ++ c ∷ []) ≡ version_of k cs
more-other k [] c e = go (c.caller == k) e
  where
    go : (b : Bool) → b ≡ false → elim b as (λ _. Option ℕ) [ true ↦ Some (lesser c.version None) | false ↦ None ] ≡ None
    go true f = absurd (true≢false f)
    go false f = refl
more-other k (x ∷ xs) c e = let r = more-other k xs c e in go (x.caller == k) r
  where
    go : (b : Bool) → version_of k (xs ++ c ∷ []) ≡ version_of k xs
        → elim b as (λ _. Option ℕ) [ true ↦ Some (lesser x.version (version_of k (xs ++ c ∷ []))) | false ↦ version_of k (xs ++ c ∷ []) ]
        ≡ elim b as (λ _. Option ℕ) [ true ↦ Some (lesser x.version (version_of k xs)) | false ↦ version_of k xs ]
    go true r = ap (λ (o : Option ℕ). Some (lesser x.version o)) r
    go false r = r

pub begin-version : (graph : Graph) (s : Core) (k : ℕ) (c : Call) → version_of k s.calls ≡ None → version_of k (begin graph s k c).calls ≡ Some (suc s.begun)
begin-version graph s k c none = more-same k s.calls (new_call graph s k c) none (eq-eqb k k refl)

pub begin-others : (graph : Graph) (s : Core) (k j : ℕ) (c : Call) → (j ≡ k → ⊥) → version_of j (begin graph s k c).calls ≡ version_of j s.calls
begin-others graph s k j c ne = more-other j s.calls (new_call graph s k c) (false_from_ne_true (k == j) (λ e. ne (sym (eqb-true k j e))))
