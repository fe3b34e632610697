-- Jobs that are out, by their nodes.
use Rattle.std.proofs.Common.{◌≡◌, ℕ, Bool, true, false, cond, not, ◌||◌, ◌==◌, nat_lt, List, [], ◌∷◌, map, Some, None, refl, sym, ap, ◌∙◌, subst}
use Rattle.std.proofs.lemmas.Bool.{eqb-true}
use Rattle.signal_graph.specs.Graph.{Graph, is_in}
use Rattle.flow_model.specs.declared.step.Step.TheVariants as steps
use Rattle.flow_model.specs.Machine.Sets.{put, take_out}
use Rattle.flow_model.specs.Machine.State.{Core}
use Rattle.flow_model.specs.Machine.State as state
use Rattle.flow_model.specs.Machine.Words.{found_now, body_now}
use Rattle.flow_model.specs.Machine.Steps.{allowed}
use Rattle.flow_model.proofs.Work.WorkAtOneNode.{evaluate-not_found, body-found}
use Rattle.flow_state.specs.declared.found.Found.{Found}
use Rattle.flow_state.specs.declared.outcome.Outcome.{Outcome}
use Rattle.flow_state.specs.declared.outcome.Outcome.TheVariants as outcome
use Rattle.flow_state.specs.declared.outcome.Answer.{Answer}
use Rattle.flow_state.specs.Answers.{step_for, step_of, IsOutcome, IsRight}
use Rattle.flow_state.specs.Found.{selection_of}
use Rattle.flow_state.specs.Jobs.{outcome_in}
use Rattle.flow_state.proofs.JobLemmas.{found_back}
use Rattle.flow_state.proofs.Outcomes.{outcome-right}
use Rattle.caller_fronts.specs.Jobs.{job_at, jobs_at, job_of, with_job, without_job}
use Rattle.caller_fronts.proofs.TokensStay.{job-evaluate, job-body}

-- ---- by nodes

pub job-out : (graph : Graph) (s : Core) (t n : ℕ) (nodes : List ℕ) (answer : Answer) → job_of n (jobs_at graph s t nodes) ≡ Some answer
    → (is_in n nodes ≡ true) × (answer ≡ job_at graph s t n)
job-out graph s t n [] answer h = absurd (cc)
job-out graph s t n (x ∷ xs) answer h = go (x == n) refl h (λ k. job-out graph s t n xs answer k)
  where
    go : (b : Bool) → (x == n) ≡ b → cond b (Some (job_at graph s t x)) (job_of n (jobs_at graph s t xs)) ≡ Some answer
        → (job_of n (jobs_at graph s t xs) ≡ Some answer → (is_in n xs ≡ true) × (answer ≡ job_at graph s t n))
        → ((b || is_in n xs) ≡ true) × (answer ≡ job_at graph s t n)
    go true e h k = let same : job_at graph s t x ≡ answer = cc in (refl, sym same ∙ ap (job_at graph s t) (eqb-true x n e))
    go false e h k = k h

pub job-some : (graph : Graph) (s : Core) (t n : ℕ) (nodes : List ℕ) → is_in n nodes ≡ true → job_of n (jobs_at graph s t nodes) ≡ Some (job_at graph s t n)
job-some graph s t n [] h = absurd (cc)
job-some graph s t n (x ∷ xs) h = go (x == n) refl h (λ k. job-some graph s t n xs k)
  where
    go : (b : Bool) → (x == n) ≡ b → (b || is_in n xs) ≡ true → (is_in n xs ≡ true → job_of n (jobs_at graph s t xs) ≡ Some (job_at graph s t n))
        → cond b (Some (job_at graph s t x)) (job_of n (jobs_at graph s t xs)) ≡ Some (job_at graph s t n)
    go true e h k = ap (λ (m : ℕ). Some (job_at graph s t m)) (eqb-true x n e)
    go false e h k = k h

pub job-none : (graph : Graph) (s : Core) (t n : ℕ) (nodes : List ℕ) → is_in n nodes ≡ false → job_of n (jobs_at graph s t nodes) ≡ None
job-none graph s t n [] h = refl
job-none graph s t n (x ∷ xs) h = go (x == n) h (λ k. job-none graph s t n xs k)
  where
    go : (b : Bool) → (b || is_in n xs) ≡ false → (is_in n xs ≡ false → job_of n (jobs_at graph s t xs) ≡ None)
        → cond b (Some (job_at graph s t x)) (job_of n (jobs_at graph s t xs)) ≡ None
    go true h k = absurd (cc)
    go false h k = k h

pub job-more : (graph : Graph) (s : Core) (t n : ℕ) (nodes : List ℕ) → is_in n nodes ≡ false → jobs_at graph s t (put n nodes) ≡ with_job (job_at graph s t n) (jobs_at graph s t nodes)
job-more graph s t n [] h = refl
job-more graph s t n (x ∷ xs) h = go (x == n) (nat_lt n x) h (λ k. job-more graph s t n xs k)
  where
    go : (b c : Bool) → (b || is_in n xs) ≡ false → (is_in n xs ≡ false → jobs_at graph s t (put n xs) ≡ with_job (job_at graph s t n) (jobs_at graph s t xs))
        → jobs_at graph s t (elim b as (λ _. List ℕ) [ true ↦ x ∷ xs | false ↦ elim c as (λ _. List ℕ) [ true ↦ n ∷ x ∷ xs | false ↦ x ∷ put n xs ] ])
        ≡ elim c as (λ _. List Answer) [ true ↦ job_at graph s t n ∷ job_at graph s t x ∷ jobs_at graph s t xs | false ↦ job_at graph s t x ∷ with_job (job_at graph s t n) (jobs_at graph s t xs) ]
    go true c h k = absurd (cc)
    go false true h k = refl
    go false false h k = ap (λ (js : List Answer). job_at graph s t x ∷ js) (k h)

pub job-less : (graph : Graph) (s : Core) (t n : ℕ) (nodes : List ℕ) → jobs_at graph s t (take_out n nodes) ≡ without_job n (jobs_at graph s t nodes)
job-less graph s t n [] = refl
job-less graph s t n (x ∷ xs) = go (x == n) (job-less graph s t n xs)
  where
    go : (b : Bool) → jobs_at graph s t (take_out n xs) ≡ without_job n (jobs_at graph s t xs)
        → jobs_at graph s t (elim b as (λ _. List ℕ) [ true ↦ take_out n xs | false ↦ x ∷ take_out n xs ])
        ≡ cond (not b) (job_at graph s t x ∷ without_job n (jobs_at graph s t xs)) (without_job n (jobs_at graph s t xs))
    go true r = r
    go false r = ap (λ (js : List Answer). job_at graph s t x ∷ js) r

-- ---- jobs are right

in-step : (t n : ℕ) (found : state.Found) → step_for t n (outcome_in found) ≡ steps.Evaluate t n
in-step t n (state.Gives v) = refl
in-step t n (state.Selects rs) = refl

pub evaluate-right : (graph : Graph) (s : Core) (t n : ℕ) → allowed graph s (steps.Evaluate t n) ≡ true
    → (step_of (job_at graph s t n) ≡ steps.Evaluate t n) × IsRight graph s (job_at graph s t n)
evaluate-right graph s t n a =
    let is = sym (job-evaluate graph s t n (evaluate-not_found graph s t n a)) in
    subst (λ (j : Answer). (step_of j ≡ steps.Evaluate t n) × IsRight graph s j) is (in-step t n (found_now graph s t n), outcome-right graph s t n (found_now graph s t n) refl)

pub body-right : (graph : Graph) (s : Core) (t n : ℕ) → allowed graph s (steps.Body t n) ≡ true
    → (step_of (job_at graph s t n) ≡ steps.Body t n) × IsRight graph s (job_at graph s t n)
body-right graph s t n a =
    subst (λ (j : Answer). (step_of j ≡ steps.Body t n) × IsRight graph s j) (sym (job-body graph s t n (body-found graph s t n a))) (refl, refl)

-- ---- an answer that is right is the job

abbrev answer : ℕ → ℕ → Outcome → Answer
answer t n o = record { version = t; node = n; outcome = o }

made : (u t m n : ℕ) (o p : Outcome) → u ≡ t → m ≡ n → o ≡ p → answer u m o ≡ answer t n p
made u t m n o p a b c = cc

outcome-found : (graph : Graph) (s : Core) (t n u m : ℕ) (o : Outcome) → step_for u m o ≡ steps.Evaluate t n → IsOutcome graph s u m o
    → answer u m o ≡ answer t n (outcome_in (found_now graph s t n))
outcome-found graph s t n u m (outcome.Value v) is right =
    let version : u ≡ t = cc in let node : m ≡ n = cc in
    let found : found_now graph s t n ≡ state.Gives v = subst (λ (x : ℕ). found_now graph s x n ≡ state.Gives v) version (subst (λ (y : ℕ). found_now graph s u y ≡ state.Gives v) node right) in
    made u t m n (outcome.Value v) _ version node (ap outcome_in (sym found))
outcome-found graph s t n u m (outcome.Found list) is right =
    let version : u ≡ t = cc in let node : m ≡ n = cc in
    let found : found_now graph s t n ≡ state.Selects (map selection_of list) = subst (λ (x : ℕ). found_now graph s x n ≡ state.Selects (map selection_of list)) version (subst (λ (y : ℕ). found_now graph s u y ≡ state.Selects (map selection_of list)) node right) in
    made u t m n (outcome.Found list) _ version node (ap outcome.Found (sym (found_back list)) ∙ ap outcome_in (sym found))
outcome-found graph s t n u m (outcome.Body v) is right = absurd (cc)

outcome-body : (graph : Graph) (s : Core) (t n u m : ℕ) (o : Outcome) → step_for u m o ≡ steps.Body t n → IsOutcome graph s u m o
    → answer u m o ≡ answer t n (outcome.Body (body_now graph s n))
outcome-body graph s t n u m (outcome.Value v) is right = absurd (cc)
outcome-body graph s t n u m (outcome.Found list) is right = absurd (cc)
outcome-body graph s t n u m (outcome.Body v) is right =
    let version : u ≡ t = cc in let node : m ≡ n = cc in
    made u t m n (outcome.Body v) _ version node (ap outcome.Body (sym (subst (λ (y : ℕ). body_now graph s y ≡ v) node right)))

pub evaluate-is : (graph : Graph) (s : Core) (t n : ℕ) (answer : Answer) → allowed graph s (steps.Evaluate t n) ≡ true → step_of answer ≡ steps.Evaluate t n → IsRight graph s answer
    → answer ≡ job_at graph s t n
evaluate-is graph s t n answer a is right =
    outcome-found graph s t n answer.version answer.node answer.outcome is right ∙ sym (job-evaluate graph s t n (evaluate-not_found graph s t n a))

pub body-is : (graph : Graph) (s : Core) (t n : ℕ) (answer : Answer) → allowed graph s (steps.Body t n) ≡ true → step_of answer ≡ steps.Body t n → IsRight graph s answer
    → answer ≡ job_at graph s t n
body-is graph s t n answer a is right =
    outcome-body graph s t n answer.version answer.node answer.outcome is right ∙ sym (job-body graph s t n (body-found graph s t n a))
