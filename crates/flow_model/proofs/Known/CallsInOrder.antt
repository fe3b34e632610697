-- The live calls stand in the order of their versions and no more have begun than may, at the opening, after each step and beginning.
use Rattle.std.proofs.Common.{◌≡◌, ℕ, suc, ◌<◌, ◌≤◌, Bool, true, false, ◌==◌, sym, ap, arith, List, [], ◌∷◌, ◌++◌, map, ◌∙◌, subst, nat_lt}
use Rattle.std.specs.List.{AllByRecursion}
use Rattle.std.proofs.lemmas.List.{map-append}
use Rattle.std.proofs.lemmas.List.Folds.{list_any-append}
use Rattle.std.proofs.lemmas.Bool.{or_left}
use Rattle.script_tree.proofs.Truths.{and_right}
use Rattle.signal_graph.specs.declared.call.Call.{Call}
use Rattle.signal_graph.specs.Graph.{Graph, is_in}
use Rattle.signal_graph.proofs.Members.{all-members}
use Rattle.call_log.specs.Made.{versions_in}
use Rattle.flow_model.specs.declared.step.Step.{Step}
use Rattle.flow_model.specs.Machine.Sets.{IsSet}
use Rattle.flow_model.specs.Machine.State.{Core, LiveCall}
use Rattle.flow_model.specs.Machine.Steps.{allowed, apply, can_begin, begin, new_call, without_call}
use Rattle.flow_model.specs.Kept.Lawful.{IsLawful, BegunIsWithin, CallsAscend}
use Rattle.flow_model.proofs.OneStep.SameLengths.{step-begun}
use Rattle.flow_model.proofs.Callers.OnlyBeginningsAdd.{MakerStep, stays, logs, makers-versions, step-makers, step-within}

-- ---- no more have begun than may

pub step-BegunIsWithin : (graph : Graph) (s : Core) (step : Step) → allowed graph s step ≡ true → BegunIsWithin s → BegunIsWithin (apply graph s step)
step-BegunIsWithin graph s step a h = let b = step-begun graph s step in let l = (step-within graph s step a).1 in omega (arith, b, l, h)

pub begin-BegunIsWithin : (graph : Graph) (s : Core) (caller : ℕ) (c : Call) → can_begin graph s caller c ≡ true → BegunIsWithin (begin graph s caller c)
begin-BegunIsWithin graph s caller c a = below s.begun s.limit (and_right _ _ a)
  where
    below : (x y : ℕ) → nat_lt x y ≡ true → suc x ≤ y
    below x y k = grind arith

-- ---- calls in the order of their versions

without-all : (P : ℕ → Type 0) (t : ℕ) (cs : List LiveCall) → AllByRecursion P (map (λ (c : LiveCall). c.version) cs) → AllByRecursion P (map (λ (c : LiveCall). c.version) (without_call t cs))
without-all P t [] h = tt
without-all P t (c ∷ cs) h = go (c.version == t) (without-all P t cs h.1)
  where
    go : (b : Bool) → AllByRecursion P (map (λ (c : LiveCall). c.version) (without_call t cs)) → AllByRecursion P (map (λ (c : LiveCall). c.version) (elim b as (λ _. List LiveCall) [ true ↦ without_call t cs | false ↦ c ∷ without_call t cs ]))
    go true r = r
    go false r = (h.0, r)

without-IsSet : (t : ℕ) (cs : List LiveCall) → IsSet (map (λ (c : LiveCall). c.version) cs) → IsSet (map (λ (c : LiveCall). c.version) (without_call t cs))
without-IsSet t [] h = tt
without-IsSet t (c ∷ cs) h = go (c.version == t) (without-IsSet t cs h.1)
  where
    go : (b : Bool) → IsSet (map (λ (c : LiveCall). c.version) (without_call t cs)) → IsSet (map (λ (c : LiveCall). c.version) (elim b as (λ _. List LiveCall) [ true ↦ without_call t cs | false ↦ c ∷ without_call t cs ]))
    go true r = r
    go false r = (without-all (λ y. c.version < y) t cs h.0, r)

pub step-CallsAscend : (graph : Graph) (s : Core) (step : Step) → allowed graph s step ≡ true → CallsAscend s → CallsAscend (apply graph s step)
step-CallsAscend graph s step a h = go (step-makers graph s step a)
  where
    go : MakerStep s (apply graph s step) → CallsAscend (apply graph s step)
    go (stays e) = subst IsSet (sym (makers-versions (apply graph s step).calls ∙ ap (map (λ (p : ℕ × (ℕ × Call)). p.1.0)) e.calls ∙ sym (makers-versions s.calls))) h
    go (logs t e) = subst (λ (cs : List LiveCall). IsSet (map (λ (c : LiveCall). c.version) cs)) (sym e.calls) (without-IsSet t s.calls h)

all-last : (P : ℕ → Type 0) (x : ℕ) (xs : List ℕ) → AllByRecursion P xs → P x → AllByRecursion P (xs ++ x ∷ [])
all-last P x [] h p = (p, tt)
all-last P x (y ∷ ys) h p = (h.0, all-last P x ys h.1 p)

last-IsSet : (x : ℕ) (xs : List ℕ) → IsSet xs → AllByRecursion (λ y. y < x) xs → IsSet (xs ++ x ∷ [])
last-IsSet x [] h a = (tt, tt)
last-IsSet x (y ∷ ys) h a = (all-last (λ z. y < z) x ys h.0 a.0, last-IsSet x ys h.1 a.1)

pub begin-CallsAscend : (graph : Graph) (s : Core) (caller : ℕ) (c : Call) → IsLawful graph s → CallsAscend (begin graph s caller c)
begin-CallsAscend graph s caller c h =
    subst IsSet (sym (map-append (λ (c : LiveCall). c.version) s.calls (new_call graph s caller c ∷ [])))
    (last-IsSet (suc s.begun) (map (λ (c : LiveCall). c.version) s.calls) h.calls_ascend (all-members (λ y. y < suc s.begun) (map (λ (c : LiveCall). c.version) s.calls) (λ y i. below y i)))
  where
    below : (y : ℕ) → is_in y (map (λ (c : LiveCall). c.version) s.calls) ≡ true → y < suc s.begun
    below y i = let r = (h.versions_are_fresh.fit y (list_any-append (λ m. m == y) (map (λ (c : LiveCall). c.version) s.calls) (versions_in s.log) ∙ or_left _ _ i)).1 in omega (arith, r)
