-- A live call after steps that are not its end.
use Rattle.std.proofs.Common.{◌≡◌, ◌≢◌, ⊎_elim, ℕ, Bool, true, false, ◌==◌, List, Some, refl, sym, ap, ◌∙◌, subst}
use Rattle.std.proofs.lemmas.Bool.{or_cases, and_parts, eqb-true}
use Rattle.std.specs.Prelude.{is_some}
use Rattle.signal_graph.specs.Graph.{Graph, is_in}
use Rattle.flow_model.specs.declared.step.Step.{Step}
use Rattle.flow_model.specs.declared.step.Step.TheVariants as steps
use Rattle.flow_model.specs.Machine.Keys.{version_of_step, is_own_step}
use Rattle.flow_model.specs.Machine.Sets.{put, take_out}
use Rattle.flow_model.specs.Machine.State.{Core, call, live}
use Rattle.flow_model.specs.Machine.Steps.{apply, IsEvaluationDue}
use Rattle.flow_model.specs.Machine.Histories.{Make}
use Rattle.flow_model.specs.Follows.Others.{caller_of, caller_of_version}
use Rattle.flow_model.proofs.General.Sets.{in-put, in-take_out}
use Rattle.flow_model.proofs.OneStep.CallsLiveOn.{Continues, IsEnd, step-continues}
use Rattle.flow_model.proofs.OneList.CallsAndCells.{without_call-other}
use Rattle.caller_fronts.specs.Keys.{key_for}

-- the caller of a turn's step
pub step-whose : (s : Core) (k t : ℕ) (step : Step) → (call s t).caller ≡ k → (is_own_step step ≡ true → version_of_step step ≡ Some t) → caller_of s (Make step) ≡ key_for k step
step-whose s k t step whose own = go (is_own_step step) own
  where
    go : (b : Bool) → (b ≡ true → version_of_step step ≡ Some t) → elim b as (λ _. ℕ) [ true ↦ caller_of_version s (version_of_step step) | false ↦ 0 ] ≡ elim b as (λ _. ℕ) [ true ↦ k | false ↦ 0 ]
    go true own = ap (caller_of_version s) (own refl) ∙ whose
    go false own = refl

-- a call that does not end lives on
pub step-lives : (graph : Graph) (s : Core) (step : Step) (t : ℕ) → live s t ≡ true → step ≢ steps.End t → live (apply graph s step) t ≡ true
step-lives graph s step t l no_end = ⊎_elim
    (λ (c : Continues s (apply graph s step)). c.lives t ∙ l)
    (λ (e : IsEnd step). subst (λ (x : Step). live (apply graph s x) t ≡ true) (sym e.1)
    (ap is_some (without_call-other e.0 t s.calls (λ same. no_end (e.1 ∙ ap steps.End (sym same)))) ∙ l))
    (step-continues graph s step)

-- ---- nodes with jobs out

pub fewer-due : (graph : Graph) (s : Core) (t n : ℕ) (nodes : List ℕ) → ((m : ℕ) → is_in m nodes ≡ true → IsEvaluationDue graph s t m)
    → (m : ℕ) → is_in m (take_out n nodes) ≡ true → IsEvaluationDue graph s t m
fewer-due graph s t n nodes due m i = due m (and_parts _ _ (sym (in-take_out m n nodes) ∙ i)).0

pub more-due : (graph : Graph) (s : Core) (t n : ℕ) (nodes : List ℕ) → ((m : ℕ) → is_in m nodes ≡ true → IsEvaluationDue graph s t m) → IsEvaluationDue graph s t n
    → (m : ℕ) → is_in m (put n nodes) ≡ true → IsEvaluationDue graph s t m
more-due graph s t n nodes due new m i = ⊎_elim
    (λ (e : (m == n) ≡ true). subst (IsEvaluationDue graph s t) (sym (eqb-true m n e)) new)
    (λ (e : is_in m nodes ≡ true). due m e)
    (or_cases (m == n) (is_in m nodes) (sym (in-put m n nodes) ∙ i))
