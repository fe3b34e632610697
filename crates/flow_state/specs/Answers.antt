-- What an answer says: the step that it makes, and where it is right.
use Rattle.std.specs.Prelude.{◌≡◌, ℕ, true, map}
use Rattle.signal_graph.specs.Graph.{Graph}
use Rattle.flow_model.specs.declared.step.Step.{Step}
use Rattle.flow_model.specs.declared.step.Step.TheVariants.{Evaluate, Body}
use Rattle.flow_model.specs.Machine.State.{Core}
use Rattle.flow_model.specs.Machine.State.{Gives}
use Rattle.flow_model.specs.Machine.State.{Selects}
use Rattle.flow_model.specs.Machine.Words.{found_now, body_now}
use Rattle.flow_model.specs.Machine.Steps.{allowed}
use Rattle.flow_state.specs.declared.outcome.Outcome.{Outcome}
use Rattle.flow_state.specs.declared.outcome.Outcome.TheVariants as outcome
use Rattle.flow_state.specs.declared.outcome.Answer.{Answer}
use Rattle.flow_state.specs.Booked.{Booked}
use Rattle.flow_state.specs.Found.{selection_of}
use Rattle.flow_state.specs.Fitting.{IsBookOf, book_after}

-- the step of an outcome at a node for a call
abbrev pub step_for : ℕ → ℕ → Outcome → Step
step_for t n (outcome.Value v) = Evaluate t n
step_for t n (outcome.Found list) = Evaluate t n
step_for t n (outcome.Body v) = Body t n

abbrev pub step_of : Answer → Step
step_of answer = step_for answer.version answer.node answer.outcome

-- The outcome is what its step finds in the state.
abbrev pub IsOutcome : Graph → Core → ℕ → ℕ → Outcome → Type 0
IsOutcome graph s t n (outcome.Value v) = found_now graph s t n ≡ Gives v
IsOutcome graph s t n (outcome.Found list) = found_now graph s t n ≡ Selects (map selection_of list)
IsOutcome graph s t n (outcome.Body v) = body_now graph s n ≡ v

abbrev pub IsRight : Graph → Core → Answer → Type 0
IsRight graph s answer = IsOutcome graph s answer.version answer.node answer.outcome

-- Some fitting state allows the answer's step, and the answer is right in it.
pub record IsAnswerStep (graph : Graph) (book : Booked) (answer : Answer) : Type 0 where
  pub state : Core
  pub fits : IsBookOf graph state book
  pub allowed : allowed graph state (step_of answer) ≡ true
  pub right : IsRight graph state answer

-- In each such state the new book is that of the state after the step.
abbrev pub MakesAnswer : Graph → Booked → Answer → Booked → Type 0
MakesAnswer graph book answer new =
    (s : Core) → IsBookOf graph s book → allowed graph s (step_of answer) ≡ true → IsRight graph s answer
    → new ≡ book_after graph s (step_of answer) book
