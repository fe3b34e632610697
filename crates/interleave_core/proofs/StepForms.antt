-- The forms of the steps' contracts, as they are met over a book and lists.
use Rattle.std.proofs.Common.{◌≡◌, ℕ, ◌<◌, List, length, Some, None, get_or, set, refl, sym, ap, ◌∙◌, subst}
use Rattle.signal_graph.specs.Graph.{Graph}
use Rattle.node_versions.specs.Entries.{Versions}
use Rattle.flow_model.specs.declared.step.Step.{Step}
use Rattle.flow_model.specs.declared.step.Step.TheVariants.{Discover}
use Rattle.flow_model.specs.Machine.State.{Core}
use Rattle.flow_model.specs.Machine.Keys.{list_of_step}
use Rattle.flow_state.specs.Booked.{Booked}
use Rattle.flow_state.specs.Fitting.{IsBookStep, IsListStep, MakesBook, MakesList, MakesRead, book_after}
use Rattle.flow_state.specs.declared.outcome.Answer.{Answer}
use Rattle.flow_state.specs.Answers.{step_of, IsRight, IsAnswerStep, MakesAnswer}
use Rattle.flow_state.specs.Joining.{MakesJoined, IsJoinedOf, MakesTold}
use Rattle.interleave_core.specs.Whole.{Whole, state_of}
use Rattle.interleave_core.proofs.Fits.{fits, list_fits}
use Rattle.interleave_core.proofs.StepsMade.{StaysLawful, CanMake, IsMade, can_here, list_there, made_by_book, made_by_list}

-- ---- what a step asks

-- a step on the book alone
pub can_book : {graph : Graph} {book : Booked} {lists : List Versions} {seen : Whole} {step : Step}
    → CanMake graph book lists seen step → IsBookStep graph book step
can_book {graph} {book} {lists} h = record { state = state_of book.book lists; fits = fits graph book lists h.kept; allowed = can_here h }

-- a step on the book and the list of a node
pub can_list : {graph : Graph} {book : Booked} {lists : List Versions} {seen : Whole} {step : Step} {n : ℕ} {was : Versions}
    → CanMake graph book lists seen step → n < length lists → was ≡ get_or lists n was → IsListStep graph book n was step
can_list {graph} {book} {lists} {n = n} {was = was} h below e = record {
  state = state_of book.book lists;
  fits = fits graph book lists h.kept;
  is_list = list_fits graph book lists n was h.kept below e;
  allowed = can_here h;
}

-- An answer is right in the state where it is so in what is seen.
right_here : {graph : Graph} {book : Booked} {lists : List Versions} {seen : Whole} (answer : Answer)
    → CanMake graph book lists seen (step_of answer) → IsRight seen.graph seen.state answer
    → IsRight graph (state_of book.book lists) answer
right_here answer h right = subst (λ (w : Whole). IsRight w.graph w.state answer) (sym h.view) right

-- an answer that is put
pub can_answer : {graph : Graph} {book : Booked} {lists : List Versions} {seen : Whole} (answer : Answer)
    → CanMake graph book lists seen (step_of answer) → IsRight seen.graph seen.state answer → IsAnswerStep graph book answer
can_answer {graph} {book} {lists} answer h right = record {
  state = state_of book.book lists;
  fits = fits graph book lists h.kept;
  allowed = can_here h;
  right = right_here answer h right;
}

-- ---- what a step makes

-- a step on the book alone
pub book_step : {graph : Graph} {book new : Booked} {lists : List Versions} {seen : Whole} {step : Step}
    → StaysLawful → CanMake graph book lists seen step → list_of_step step ≡ None → MakesBook graph book step new
    → IsMade graph new lists seen step
book_step {graph} {book} {new} {lists} {seen} {step} law h quiet makes =
    made_by_book graph book new lists seen step law h quiet (makes (state_of book.book lists) (fits graph book lists h.kept) (can_here h))

-- a step that reads one list and changes the book alone
pub read_step : {graph : Graph} {book new : Booked} {lists : List Versions} {seen : Whole} {step : Step} {n : ℕ} {was : Versions}
    → StaysLawful → CanMake graph book lists seen step → list_of_step step ≡ None → n < length lists → was ≡ get_or lists n was
    → MakesRead graph book n was step new → IsMade graph new lists seen step
read_step {graph} {book} {new} {lists} {seen} {step} {n} {was} law h quiet below e makes =
    made_by_book graph book new lists seen step law h quiet
    (makes (state_of book.book lists) (fits graph book lists h.kept) (list_fits graph book lists n was h.kept below e) (can_here h))

-- a step on the book and one list
pub list_step : {graph : Graph} {book new : Booked} {lists : List Versions} {seen : Whole} {step : Step} {n : ℕ} {was list : Versions}
    → StaysLawful → CanMake graph book lists seen step → list_of_step step ≡ Some n → was ≡ get_or lists n was
    → MakesList graph book n was step new list → IsMade graph new (set lists n list) seen step
list_step {graph} {book} {new} {lists} {seen} {step} {n} {was} {list} law h one e makes =
    let is_list = list_fits graph book lists n was h.kept (list_there h one) e in
    made_by_list graph book new lists seen step n list law h one
    (makes (state_of book.book lists) (fits graph book lists h.kept) is_list (can_here h))

-- an answer that is put
pub answer_step : {graph : Graph} {book new : Booked} {lists : List Versions} {seen : Whole} (answer : Answer)
    → StaysLawful → CanMake graph book lists seen (step_of answer) → list_of_step (step_of answer) ≡ None
    → IsRight seen.graph seen.state answer → MakesAnswer graph book answer new → IsMade graph new lists seen (step_of answer)
answer_step {graph} {book} {new} {lists} {seen} answer law h quiet right makes =
    made_by_book graph book new lists seen (step_of answer) law h quiet
    (makes (state_of book.book lists) (fits graph book lists h.kept) (can_here h) (right_here answer h right))

-- ---- Discover, in two parts

-- Between the parts, the book and the list are those that the first part leaves.
pub joined_of : {graph : Graph} {book new : Booked} {lists : List Versions} {seen : Whole} {was list : Versions} (t n m : ℕ)
    → CanMake graph book lists seen (Discover t n m) → was ≡ get_or lists m was → MakesJoined graph book was t n m new list
    → IsJoinedOf graph (state_of book.book lists) t n m new list
joined_of {graph} {book} {lists = lists} {was = was} t n m h e makes =
    let is_list = list_fits graph book lists m was h.kept (list_there h refl) e in
    let first = makes (state_of book.book lists) (fits graph book lists h.kept) is_list (can_here h) in
    record {
      lawful = h.kept.lawful;
      allowed = can_here h;
      parts = ap (λ (b : Booked). b.book) first.0;
      room_for = ap (λ (b : Booked). b.room_for) first.0 ∙ h.kept.room_for;
      is_list = first.1;
    }

-- what both parts make
pub discover_step : {graph : Graph} {book new newer : Booked} {lists : List Versions} {seen : Whole} {was list : Versions} (t n m : ℕ)
    → StaysLawful → CanMake graph book lists seen (Discover t n m) → was ≡ get_or lists m was
    → MakesJoined graph book was t n m new list → MakesTold graph t n m new list newer
    → IsMade graph newer (set lists m list) seen (Discover t n m)
discover_step {graph} {book} {new} {newer} {lists} {seen} {was} {list} t n m law h e joins tells =
    let s : Core = state_of book.book lists in
    let is_list = list_fits graph book lists m was h.kept (list_there h refl) e in
    let first = joins s (fits graph book lists h.kept) is_list (can_here h) in
    let told = tells s (joined_of t n m h e joins) in
    made_by_list graph book newer lists seen (Discover t n m) m list law h refl
    (told.0 ∙ ap (book_after graph s (Discover t n m)) first.0, told.1)
