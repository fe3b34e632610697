-- What a caller finds again in a later history.
use Rattle.std.proofs.Common.{◌≡◌, inl, inr, ⊎_elim, ℕ, Bool, true, false, List, [], ◌∷◌, map, refl, sym, ap, ap₂, ◌∙◌, subst}
use Rattle.std.proofs.lemmas.Bool.{or_left, or_right, eq-eqb}
use Rattle.signal_graph.specs.Graph.{Graph, is_in}
use Rattle.flow_model.specs.declared.step.Step.TheVariants as steps
use Rattle.flow_model.specs.Machine.State.{Core, opening}
use Rattle.flow_model.specs.Machine.Words.{is_found, found_now, body_now}
use Rattle.flow_model.specs.Machine.Steps.{allowed, IsEvaluationDue}
use Rattle.flow_model.specs.Machine.Histories.{Move, after_moves, may_all, state, is_history}
use Rattle.flow_model.proofs.Histories.Moves.{may_parts, after_parts}
use Rattle.flow_model.proofs.Work.WorkAtOneNode.{evaluate-not_found, body-found}
use Rattle.flow_state.specs.declared.outcome.Outcome.TheVariants as outcome
use Rattle.flow_state.specs.declared.outcome.Answer.{Answer}
use Rattle.flow_state.specs.Jobs.{outcome_in}
use Rattle.caller_fronts.specs.Fronts.{IsLater}
use Rattle.caller_fronts.specs.Jobs.{job_at}

-- ---- the moves behind a front

pub state_is : (graph : Graph) (callers limit k : ℕ) (front later : List Move) (l : IsLater graph callers limit k front later)
    → state graph callers limit later ≡ after_moves graph (state graph callers limit front) l.rest
state_is graph callers limit k front later l = ap (state graph callers limit) (sym l.joined) ∙ after_parts graph front l.rest (opening graph callers limit)

pub rest_may : (graph : Graph) (callers limit k : ℕ) (front later : List Move) (l : IsLater graph callers limit k front later)
    → may_all graph (state graph callers limit front) l.rest ≡ true
rest_may graph callers limit k front later l =
    (may_parts graph front l.rest (opening graph callers limit) (subst (λ (ms : List Move). is_history graph callers limit ms ≡ true) (sym l.joined) l.history)).1

-- ---- jobs

pub job-evaluate : (graph : Graph) (s : Core) (t n : ℕ) → is_found s n ≡ false → job_at graph s t n ≡ record { version = t; node = n; outcome = outcome_in (found_now graph s t n) }
job-evaluate graph s t n is = ap (λ (b : Bool). job b) is
  where
    job : Bool → Answer
    job b = record { version = t; node = n; outcome = elim b [ true ↦ outcome.Body (body_now graph s n) | false ↦ outcome_in (found_now graph s t n) ] }

pub job-body : (graph : Graph) (s : Core) (t n : ℕ) → is_found s n ≡ true → job_at graph s t n ≡ record { version = t; node = n; outcome = outcome.Body (body_now graph s n) }
job-body graph s t n is = ap (λ (b : Bool). job b) is
  where
    job : Bool → Answer
    job b = record { version = t; node = n; outcome = elim b [ true ↦ outcome.Body (body_now graph s n) | false ↦ outcome_in (found_now graph s t n) ] }

-- what is due stays due, and finds the same
abbrev pub EvaluateStays : Graph → Core → Core → ℕ → ℕ → Type 0
EvaluateStays graph s q t n =
    allowed graph s (steps.Evaluate t n) ≡ true → (allowed graph q (steps.Evaluate t n) ≡ true) × (found_now graph q t n ≡ found_now graph s t n)

abbrev pub BodyStays : Graph → Core → Core → ℕ → ℕ → Type 0
BodyStays graph s q t n = allowed graph s (steps.Body t n) ≡ true → (allowed graph q (steps.Body t n) ≡ true) × (body_now graph q n ≡ body_now graph s n)

pub due-stays : (graph : Graph) (s q : Core) (t n : ℕ) → EvaluateStays graph s q t n → BodyStays graph s q t n → IsEvaluationDue graph s t n → IsEvaluationDue graph q t n
due-stays graph s q t n e b due = ⊎_elim (λ a. inl (e a).0) (λ a. inr (b a).0) due

pub job-stays : (graph : Graph) (s q : Core) (t n : ℕ) → EvaluateStays graph s q t n → BodyStays graph s q t n → IsEvaluationDue graph s t n → job_at graph q t n ≡ job_at graph s t n
job-stays graph s q t n e b due = ⊎_elim
    (λ (a : allowed graph s (steps.Evaluate t n) ≡ true).
    let k = e a in
    job-evaluate graph q t n (evaluate-not_found graph q t n k.0)
    ∙ ap (λ x. record { version = t; node = n; outcome = outcome_in x }) k.1 ∙ sym (job-evaluate graph s t n (evaluate-not_found graph s t n a)))
    (λ (a : allowed graph s (steps.Body t n) ≡ true).
    let k = b a in
    job-body graph q t n (body-found graph q t n k.0)
    ∙ ap (λ v. record { version = t; node = n; outcome = outcome.Body v }) k.1 ∙ sym (job-body graph s t n (body-found graph s t n a)))
    due

pub maps-same : (f g : ℕ → Answer) (nodes : List ℕ) → ((n : ℕ) → is_in n nodes ≡ true → f n ≡ g n) → map f nodes ≡ map g nodes
maps-same f g [] h = refl
maps-same f g (x ∷ xs) h =
    ap₂ (λ (j : Answer) (js : List Answer). j ∷ js) (h x (or_left _ _ (eq-eqb x x refl))) (maps-same f g xs (λ n i. h n (or_right _ _ i)))
