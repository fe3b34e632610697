-- After each step what is looked at is what calls read, and so is what is kept at nodes, where the step does not work there.
use Rattle.std.proofs.Common.{◌≡◌, ℕ, zero, suc, true, false, ◌==◌, ◌⊎◌, inl, inr, refl, sym, ap, List, [], ◌∷◌, ◌++◌, length, ◌∙◌, subst, Option, Some}
use Rattle.std.proofs.lemmas.Bool.{eqb-true, eqb-false, cases_Bool}
use Rattle.std.specs.Prelude.{slice_get}
use Rattle.script_tree.specs.declared.value.Value.{Value}
use Rattle.signal_graph.specs.Graph.{Graph, node_at, body_of}
use Rattle.node_versions.specs.Entries.{value_before}
use Rattle.flow_model.specs.declared.step.Step.{Step}
use Rattle.flow_model.specs.declared.step.Step.TheVariants as steps
use Rattle.flow_model.specs.Machine.State.{Core, LiveCall, Cell, Found, call, call_or, cell, live, entries, with_cell}
use Rattle.flow_model.specs.Machine.Words.{heads, gathered_of, value_gathered, value_or, finds, found_now, body_now, body_over, selections_of, next_look}
use Rattle.flow_model.specs.Machine.Steps.{allowed, apply, with_look, look_value}
use Rattle.flow_model.specs.Kept.Lawful.{IsLawful, ValuesAreRead, value_for}
use Rattle.flow_model.proofs.OneStep.WhoLivesAndFrames.{step-phases}
use Rattle.flow_model.proofs.OneStep.SameCallers.{phase-live}
use Rattle.flow_model.proofs.OneList.CallsAndCells.{with_call-field, change_call-other}
use Rattle.flow_model.proofs.OrderStays.OpenNodesHaveFrames.{cell-other}
use Rattle.flow_model.proofs.OneStep.QuietSteps.{SameWork}
use Rattle.flow_model.proofs.OneStep.WhatStepsLeave.{IsWork, IsLook, step-work, step-field, looks-stay, looked-stays}
use Rattle.flow_model.proofs.Values.ReadsStay.{Resolves, old-gathered, old-found, old-looked}

-- ---- what was looked at

-- the part of the facts on looks
abbrev pub LooksAreRead : Core → Type 0
LooksAreRead q = (u k m : ℕ) (v : Value) → live q u ≡ true → slice_get (call q u).looks k ≡ Some m → slice_get (call q u).looked k ≡ Some v → v ≡ value_for q u m

pub plain-looked : (graph : Graph) (s : Core) (step : Step) → IsLawful graph s → allowed graph s step ≡ true → (IsLook step → ⊥) → LooksAreRead (apply graph s step)
plain-looked graph s step h a ne u k m v l e f =
    old-looked graph s step h a u k m v (phase-live s (apply graph s step) (step-phases graph s step a) u l)
    (sym (ap (λ (xs : List ℕ). slice_get xs k) (step-field (λ c. c.looks) graph s step (looks-stay step) u l)) ∙ e)
    (sym (ap (λ (xs : List Value). slice_get xs k) (step-field (λ c. c.looked) graph s step (looked-stays step ne) u l)) ∙ f)

get-last : (xs : List Value) (x : Value) (k : ℕ) (v : Value) → slice_get (xs ++ x ∷ []) k ≡ Some v → (slice_get xs k ≡ Some v) ⊎ ((k ≡ length xs) × (v ≡ x))
get-last [] x zero v h = inr (refl, one h)
  where
    one : Some x ≡ Some v → v ≡ x
    one e = cc
get-last [] x (suc k) v h = inl h
get-last (y ∷ ys) x zero v h = inl h
get-last (y ∷ ys) x (suc k) v h = go (get-last ys x k v h)
  where
    go : (slice_get ys k ≡ Some v) ⊎ ((k ≡ length ys) × (v ≡ x)) → (slice_get ys k ≡ Some v) ⊎ ((suc k ≡ suc (length ys)) × (v ≡ x))
    go (inl e) = inl e
    go (inr e) = inr (ap suc e.0, e.1)

pub look-looked : (graph : Graph) (s : Core) (t : ℕ) → IsLawful graph s → allowed graph s (steps.Look t) ≡ true → LooksAreRead (apply graph s (steps.Look t))
look-looked graph s t h a u k m v l e f = go (cases_Bool (u == t))
  where
    q : Core
    q = apply graph s (steps.Look t)

    x : Value
    x = look_value s t (next_look s t)

    ls : live s u ≡ true
    ls = phase-live s (apply graph s (steps.Look t)) (step-phases graph s (steps.Look t) a) u l

    looks : slice_get (call s u).looks k ≡ Some m
    looks = sym (ap (λ (xs : List ℕ). slice_get xs k) (step-field (λ c. c.looks) graph s (steps.Look t) (looks-stay (steps.Look t)) u l)) ∙ e

    old : slice_get (call s u).looked k ≡ Some v → v ≡ value_for (apply graph s (steps.Look t)) u m
    old g = old-looked graph s (steps.Look t) h a u k m v ls looks g

    go : ((u == t) ≡ true) ⊎ ((u == t) ≡ false) → v ≡ value_for (apply graph s (steps.Look t)) u m
    go (inr n) = old (sym (ap (λ (xs : List Value). slice_get xs k) (other n)) ∙ f)
      where
        other : (u == t) ≡ false → (call (apply graph s (steps.Look t)) u).looked ≡ (call s u).looked
        other n = ap (λ (o : Option LiveCall). (call_or o).looked) (change_call-other t u (with_look x) (λ c. refl) s.calls (eqb-false u t n))
    go (inl n) = two (get-last (call s t).looked x k v (sym (ap (λ (xs : List Value). slice_get xs k) mine) ∙ f))
      where
        it : u ≡ t
        it = eqb-true u t n

        mine : (call (apply graph s (steps.Look t)) u).looked ≡ (call s t).looked ++ x ∷ []
        mine = with_call-field (λ c. c.looked) s t (with_look x) (λ c. refl) u (subst (λ (j : ℕ). live s j ≡ true) it ls) ∙ rw n refl

        two : (slice_get (call s t).looked k ≡ Some v) ⊎ ((k ≡ length (call s t).looked) × (v ≡ x)) → v ≡ value_for (apply graph s (steps.Look t)) u m
        two (inl g) = old (subst (λ (j : ℕ). slice_get (call s j).looked k ≡ Some v) (sym it) g)
        two (inr g) =
            let next : next_look s t ≡ Some m = subst (λ (j : ℕ). slice_get (call s t).looks j ≡ Some m) g.0 (subst (λ (j : ℕ). slice_get (call s j).looks k ≡ Some m) it looks) in
            g.1 ∙ ap (look_value s t) next ∙ ap (λ (j : ℕ). value_for s j m) (sym it)

-- ---- what is kept at nodes

abbrev pub GatheredIsRead : Core → Type 0
GatheredIsRead q = (u n m : ℕ) (v : Value) → heads q u n ≡ true → gathered_of m (cell q n).gathered ≡ Some v → v ≡ value_for q u m

abbrev pub FoundIsRead : Graph → Core → Type 0
FoundIsRead graph q = (u n : ℕ) (f : Found) → heads q u n ≡ true → (cell q n).found ≡ Some f → f ≡ found_now graph q u n

abbrev pub BodyIsRead : Graph → Core → Type 0
BodyIsRead graph q = (n : ℕ) (v : Value) → (cell q n).body ≡ Some v → v ≡ body_now graph q n

-- a node at which the step leaves the work
module _ (graph : Graph) (s : Core) (step : Step) (h : IsLawful graph s) (a : allowed graph s step ≡ true) (n : ℕ) (ne : Resolves step n → ⊥) (w : SameWork s (apply graph s step) n) where
  pub same-gathered : (u m : ℕ) (v : Value) → heads (apply graph s step) u n ≡ true → gathered_of m (cell (apply graph s step) n).gathered ≡ Some v → v ≡ value_for (apply graph s step) u m
  same-gathered u m v k e = old-gathered graph s step h a u n m v ne k (sym (ap (gathered_of m) w.gathered) ∙ e)

  pub same-found : (u : ℕ) (f : Found) → heads (apply graph s step) u n ≡ true → (cell (apply graph s step) n).found ≡ Some f → f ≡ found_now graph (apply graph s step) u n
  same-found u f k e = (old-found graph s step h a u n f ne k (sym w.found ∙ e)).1
      ∙ ap (λ (gs : List (ℕ × Value)). finds (node_at graph n) (λ m. value_or (gathered_of m gs)) (value_before (entries (apply graph s step) n) u)) (sym w.gathered)

  pub same-body : (v : Value) → (cell (apply graph s step) n).body ≡ Some v → v ≡ body_now graph (apply graph s step) n
  same-body v e = h.values_are_read.body n v (sym w.body ∙ e)
      ∙ ap (λ (gs : List (ℕ × Value)). body_over (body_of (node_at graph n)) (λ m. value_or (gathered_of m gs)) (selections_of (cell s n).found)) (sym w.gathered)
      ∙ ap (λ (o : Option Found). body_over (body_of (node_at graph n)) (value_gathered (apply graph s step) n) (selections_of o)) (sym w.found)

resolves-work : (step : Step) (n : ℕ) → Resolves step n → IsWork step
resolves-work (steps.Resolve t m) n k = tt
resolves-work (steps.Frame t m) n k = k
resolves-work (steps.Start t) n k = k
resolves-work (steps.Skip t m) n k = k
resolves-work (steps.Gather t m i) n k = absurd k
resolves-work (steps.Evaluate t m) n k = absurd k
resolves-work (steps.Body t m) n k = absurd k
resolves-work (steps.Discover t m i) n k = k
resolves-work (steps.Drop t m i) n k = k
resolves-work (steps.Mark t m) n k = k
resolves-work (steps.Look t) n k = k
resolves-work (steps.End t) n k = k
resolves-work (steps.Collect m) n k = k

-- a step that leaves the work at all nodes
pub plain-read : (graph : Graph) (s : Core) (step : Step) → IsLawful graph s → allowed graph s step ≡ true → (IsWork step → ⊥) → LooksAreRead (apply graph s step) → ValuesAreRead graph (apply graph s step)
plain-read graph s step h a ne looks = record {
  gathered = λ u n m v. same-gathered graph s step h a n (λ k. ne (resolves-work step n k)) (step-work graph s step ne n) u m v;
  looked = looks;
  found = λ u n f. same-found graph s step h a n (λ k. ne (resolves-work step n k)) (step-work graph s step ne n) u f;
  body = λ n v. same-body graph s step h a n (λ k. ne (resolves-work step n k)) (step-work graph s step ne n) v;
}

-- the work at another node than the step's
pub other-work : (s : Core) (n0 : ℕ) (f : Cell → Cell) (n : ℕ) → (n == n0) ≡ false → SameWork s (with_cell s n0 f) n
other-work s n0 f n e = let c = cell-other s n0 n f e in record { gathered = ap (λ (x : Cell). x.gathered) c; found = ap (λ (x : Cell). x.found) c; body = ap (λ (x : Cell). x.body) c }
