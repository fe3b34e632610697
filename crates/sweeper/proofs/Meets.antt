-- Live calls whose notes were taken back, after moves.
use Rattle.std.proofs.Common.{◌≡◌, ◌≢◌, ℕ, Bool, true, false, not, ◌==◌, List, [], length, Option, Some, None, true≢false, refl, sym, ap, ◌∙◌, subst, vec_capacity}
use Rattle.std.proofs.lemmas.Bool.{and_parts, eq-eqb, both_ways}
use Rattle.std.specs.Prelude.{is_some}
use Rattle.signal_graph.specs.Graph.{Graph}
use Rattle.flow_model.specs.declared.step.Step.{Step}
use Rattle.flow_model.specs.declared.step.Step.TheVariants as steps
use Rattle.flow_model.specs.declared.step.Cause.{Cause}
use Rattle.flow_model.specs.declared.step.Cause.TheVariants.{JobOut}
use Rattle.flow_model.specs.declared.step.Turn.{Turn}
use Rattle.flow_model.specs.declared.step.Turn.TheVariants as turn
use Rattle.flow_model.specs.Machine.State.{Core}
use Rattle.flow_model.specs.Machine.Steps.{allowed}
use Rattle.flow_model.specs.Machine.Sets.{take_out}
use Rattle.flow_model.specs.Machine.Histories.{Move, state}
use Rattle.flow_model.proofs.General.Sets.{in-take_out}
use Rattle.flow_state.specs.declared.outcome.Outcome.{Outcome}
use Rattle.flow_state.specs.declared.outcome.Outcome.TheVariants as outcome
use Rattle.flow_state.specs.declared.outcome.Answer.{Answer}
use Rattle.flow_state.specs.Answers.{step_for, step_of}
use Rattle.caller_fronts.specs.Jobs.{jobs_at, job_of}
use Rattle.caller_fronts.specs.Tokens.{Going, IsGoing, IsNoJob, IsTurnOf, HasLooks, going_at}
use Rattle.sweeper.specs.declared.locked.Met.{Met}
use Rattle.sweeper.specs.declared.token.Advance.{Advance}
use Rattle.sweeper.specs.declared.token.Advance.TheVariants as advance
use Rattle.sweeper.specs.Answers.{plain_step, cause_out, cause_of, HandsOut, Takes}
use Rattle.sweeper.specs.Tokens.{IsMet}

pub is_met : (graph : Graph) (callers limit : ℕ) (met : Met) (version size : ℕ) (nodes : List ℕ) (moves later : List Move)
    → met.version ≡ version → met.luggage.value.out.nodes ≡ nodes → met.luggage.value.out.size ≡ size → later ≡ moves → size ≡ length graph.nodes
    → IsGoing graph callers limit met.caller version nodes moves → met.luggage.value.looks.items ≡ [] → HasLooks graph callers limit version moves (vec_capacity met.luggage.value.looks)
    → IsMet graph callers limit met later
is_met graph callers limit met version size nodes moves later v n z l all going empty looks = record {
  going = subst (λ (w : ℕ). IsGoing graph callers limit met.caller w met.luggage.value.out.nodes later) (sym v)
      (subst (λ (ns : List ℕ). IsGoing graph callers limit met.caller version ns later) (sym n)
      (subst (λ (ms : List Move). IsGoing graph callers limit met.caller version nodes ms) (sym l) going));
  size = z ∙ all;
  empty = empty;
  looks = subst (λ (w : ℕ). HasLooks graph callers limit w later (vec_capacity met.luggage.value.looks)) (sym v)
      (subst (λ (ms : List Move). HasLooks graph callers limit version ms (vec_capacity met.luggage.value.looks)) (sym l) looks);
}

pub going-same : (graph : Graph) (callers limit caller version : ℕ) (nodes less : List ℕ) (front later : List Move) (out : List Answer)
    → nodes ≡ less → front ≡ later → jobs_at graph (state graph callers limit later) version less ≡ out
    → going_at graph callers limit caller version nodes front ≡ record { caller = caller; front = later; version = version; out = out }
going-same graph callers limit caller version nodes less front later out n f o =
    ap (λ (ns : List ℕ). going_at graph callers limit caller version ns front) n
    ∙ ap (λ (ms : List Move). going_at graph callers limit caller version less ms) f
    ∙ ap (λ (js : List Answer). going later js) o
  where
    going : List Move → List Answer → Going
    going ms js = record { caller = caller; front = ms; version = version; out = js }

-- ---- steps that are no job of the call

no_job_for : (u m : ℕ) (o : Outcome) (t n : ℕ) → n ≢ m → (step_for u m o ≢ steps.Evaluate t n) × (step_for u m o ≢ steps.Body t n)
no_job_for u m (outcome.Value v) t n apart = ((λ e. apart (sym (cc (e)))), (λ e. absurd (cc (e))))
no_job_for u m (outcome.Found list) t n apart = ((λ e. apart (sym (cc (e)))), (λ e. absurd (cc (e))))
no_job_for u m (outcome.Body v) t n apart = ((λ e. absurd (cc (e))), (λ e. apart (sym (cc (e)))))

pub answer-no_job : (answer : Answer) (t : ℕ) (nodes : List ℕ) → IsNoJob t (take_out answer.node nodes) (step_of answer)
answer-no_job answer t nodes m i =
    no_job_for answer.version answer.node answer.outcome t m (λ same. both_ways (m == answer.node) (other (m == answer.node) (and_parts _ _ (sym (in-take_out m answer.node nodes) ∙ i)).1) (eq-eqb m answer.node same))
  where
    other : (b : Bool) → not b ≡ true → b ≡ false
    other true h = absurd (cc)
    other false h = refl

no_end_for : (u m : ℕ) (o : Outcome) (t : ℕ) → step_for u m o ≢ steps.End t
no_end_for u m (outcome.Value v) t e = absurd (cc (e))
no_end_for u m (outcome.Found list) t e = absurd (cc (e))
no_end_for u m (outcome.Body v) t e = absurd (cc (e))

pub answer-no_end : (answer : Answer) (t : ℕ) → step_of answer ≢ steps.End t
answer-no_end answer t = no_end_for answer.version answer.node answer.outcome t

pub plain-no_job : (step : Step) (t : ℕ) (nodes : List ℕ) → plain_step (turn.Step step) ≡ Some step → IsNoJob t nodes step
plain-no_job step t nodes plain n i = (
  (λ e. none (steps.Evaluate t n) (subst (λ (x : Step). plain_step (turn.Step x) ≡ Some x) e plain)),
  (λ e. none-body (steps.Body t n) (subst (λ (x : Step). plain_step (turn.Step x) ≡ Some x) e plain)),
)
  where
    none : (x : Step) → plain_step (turn.Step (steps.Evaluate t n)) ≡ Some x → ⊥
    none x e = absurd (cc (e))

    none-body : (x : Step) → plain_step (turn.Step (steps.Body t n)) ≡ Some x → ⊥
    none-body x e = absurd (cc (e))

-- ---- what a turn with a job comes to

out-cause : (n : ℕ) (o : Option Answer) → is_some o ≡ true → cause_out n o ≡ Some (JobOut n)
out-cause n None h = absurd (true≢false (sym h))
out-cause n (Some job) h = refl

module _ {J : Type 0} (graph : Graph) (callers limit : ℕ) where
  pub evaluate-takes : (live : Going) (x : Turn) (n : ℕ) → x ≡ turn.Step (steps.Evaluate live.version n)
      → allowed graph (state graph callers limit live.front) (steps.Evaluate live.version n) ≡ true
      → (answer : Advance J) → HandsOut graph callers limit live n answer → Takes graph callers limit live x answer
  evaluate-takes live x n is a (advance.Stepped new) h = absurd h
  evaluate-takes live x n is a (advance.Evaluate new job) h =
      (is ∙ ap (λ (s : Step). turn.Step s) (sym (h.0 a)), h.2, subst (λ (m : ℕ). job_of m live.out ≡ None) (sym h.3) h.4, subst (λ (m : ℕ). job_of m new.out ≡ Some job) (sym h.3) h.5, h.6)
  evaluate-takes live x n is a (advance.NotYet new cause) h =
      (ap (λ (y : Turn). cause_of y live.out) is ∙ out-cause n (job_of n live.out) h.1 ∙ ap (λ (y : Cause). Some y) (sym h.0), h.2)
  evaluate-takes live x n is a (advance.Ready new) h = absurd h

  pub body-takes : (live : Going) (x : Turn) (n : ℕ) → x ≡ turn.Step (steps.Body live.version n)
      → allowed graph (state graph callers limit live.front) (steps.Body live.version n) ≡ true
      → (answer : Advance J) → HandsOut graph callers limit live n answer → Takes graph callers limit live x answer
  body-takes live x n is a (advance.Stepped new) h = absurd h
  body-takes live x n is a (advance.Evaluate new job) h =
      (is ∙ ap (λ (s : Step). turn.Step s) (sym (h.1 a)), h.2, subst (λ (m : ℕ). job_of m live.out ≡ None) (sym h.3) h.4, subst (λ (m : ℕ). job_of m new.out ≡ Some job) (sym h.3) h.5, h.6)
  body-takes live x n is a (advance.NotYet new cause) h =
      (ap (λ (y : Turn). cause_of y live.out) is ∙ out-cause n (job_of n live.out) h.1 ∙ ap (λ (y : Cause). Some y) (sym h.0), h.2)
  body-takes live x n is a (advance.Ready new) h = absurd h

-- the version of a turn's own step
pub evaluate-turn : (graph : Graph) (s : Core) (t u n : ℕ) (x : Turn) → IsTurnOf graph s t x → x ≡ turn.Step (steps.Evaluate u n) → x ≡ turn.Step (steps.Evaluate t n)
evaluate-turn graph s t u n x of is = let own = of.own (steps.Evaluate u n) is refl in is ∙ ap (λ (w : ℕ). turn.Step (steps.Evaluate w n)) (the u t own)
  where
    the : (a b : ℕ) → Some a ≡ Some b → a ≡ b
    the a b e = cc

pub body-turn : (graph : Graph) (s : Core) (t u n : ℕ) (x : Turn) → IsTurnOf graph s t x → x ≡ turn.Step (steps.Body u n) → x ≡ turn.Step (steps.Body t n)
body-turn graph s t u n x of is = let own = of.own (steps.Body u n) is refl in is ∙ ap (λ (w : ℕ). turn.Step (steps.Body w n)) (the u t own)
  where
    the : (a b : ℕ) → Some a ≡ Some b → a ≡ b
    the a b e = cc
