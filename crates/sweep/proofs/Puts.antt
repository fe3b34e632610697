-- What an answer asks and makes.
use Rattle.std.proofs.Common.{◌≡◌, ℕ, ◌<◌, ◌≤◌, ◌+◌, Bool, true, false, cond, suc, List, [], ◌∷◌, length, filter, refl, sym, ap, ◌∙◌, subst, arith}
use Rattle.script_tree.specs.declared.value.Value.{Value}
use Rattle.signal_graph.specs.declared.node.Node.{Node}
use Rattle.signal_graph.specs.Graph.{Graph, IsGraph, numbers_from}
use Rattle.flow_model.specs.declared.step.Step.{Step}
use Rattle.flow_model.specs.declared.step.Step.TheVariants.{Evaluate, Body}
use Rattle.flow_model.specs.Machine.State.{Core, Found, live, call, change_call}
use Rattle.flow_model.specs.Machine.Words.{found_now, body_now}
use Rattle.flow_model.specs.Machine.Steps.{allowed, counted, keep_found, keep_body}
use Rattle.flow_model.specs.Kept.Lawful.{IsLawful, has_evaluated}
use Rattle.flow_model.proofs.OneStep.WhoMayStep.{evaluate-at_front, at_front-executes, executes-live}
use Rattle.flow_model.proofs.Books.StepsChangeBooks.{changed-works}
use Rattle.flow_state.specs.declared.outcome.Answer.{Answer}
use Rattle.flow_state.specs.Booked.{Booked, call_in, on_call, on_work}
use Rattle.flow_model.specs.Parts.Books.{Work, book_of, with_found, with_body, Book}
use Rattle.flow_state.specs.Answers.{step_of, IsRight, IsAnswerStep, MakesAnswer}
use Rattle.flow_state.specs.Fitting.{book_after}

-- what the step asks for
abbrev pub IsPut : Booked → Answer → Type 0
IsPut book answer = (graph : Graph) × IsAnswerStep graph book answer

abbrev pub IsEvaluate : Answer → Type 0
IsEvaluate a = step_of a ≡ Evaluate a.version a.node

filter-few : (p : ℕ → Bool) (k : ℕ) (nodes : List Node) → length (filter p (numbers_from k nodes)) ≤ length nodes
filter-few p k [] = omega arith
filter-few p k (x ∷ xs) = go (p k) (filter-few p (k + 1) xs)
  where
    go : (b : Bool) → length (filter p (numbers_from (k + 1) xs)) ≤ length xs → length (cond b (k ∷ filter p (numbers_from (k + 1) xs)) (filter p (numbers_from (k + 1) xs))) ≤ suc (length xs)
    go true r = omega (arith, r)
    go false r = omega (arith, r)

evaluated_few : (graph : Graph) (s : Core) (t : ℕ) → IsGraph graph → IsLawful graph s → live s t ≡ true → (call s t).evaluated + 1 < 4294967296
evaluated_few graph s t is_graph lawful alive =
    let count = lawful.dones_are_right.evaluated t alive in
    let most = filter-few (has_evaluated graph s t) 0 graph.nodes in
    let few = is_graph.few in
    omega (arith, count, most, few)

pub put-few : (book mid : Booked) (a : Answer) (f : Found) → IsPut book a → IsEvaluate a → mid ≡ on_work book a.node (with_found f) → (call_in mid a.version).evaluated + 1 < 4294967296
put-few book mid a f h is kept =
    let s = h.1.state in
    let fits = h.1.fits in
    let front = evaluate-at_front h.0 s a.version a.node (sym (ap (allowed h.0 s) is) ∙ h.1.allowed) in
    let few = evaluated_few h.0 s a.version fits.is_graph fits.lawful (executes-live s a.version (at_front-executes h.0 s a.version a.node front)) in
    subst (λ (b : Booked). (call_in b a.version).evaluated + 1 < 4294967296) (sym kept) (subst (λ (f : Book). (call_in (record book { book = f }) a.version).evaluated + 1 < 4294967296) (sym fits.parts) few)

pub found-makes : (book mid new : Booked) (a : Answer) (f : Found) → IsEvaluate a → ((graph : Graph) (s : Core) → IsRight graph s a → found_now graph s a.version a.node ≡ f)
    → mid ≡ on_work book a.node (with_found f) → new ≡ on_call mid a.version counted → (graph : Graph) → MakesAnswer graph book a new
found-makes book mid new a f is right kept made graph s fits h is_right =
    let t = a.version in
    let n = a.node in
    made ∙ ap (λ (b : Booked). on_call b t counted) (kept ∙ ap (λ (f : Found). on_work book n (with_found f)) (sym (right graph s is_right)))
    ∙ ap (λ (f : Book). on_call (on_work (record book { book = f }) n (with_found (found_now graph s t n))) t counted) fits.parts
    ∙ ap (λ (ws : List Work). record book { book = record (book_of s) { calls = change_call t counted s.calls; works = ws } }) (sym (changed-works n (keep_found (found_now graph s t n)) (with_found (found_now graph s t n)) (λ c. refl) s.cells))
    ∙ ap (λ (step : Step). book_after graph s step book) (sym is)

pub body-makes : (book new : Booked) (a : Answer) (v : Value) → step_of a ≡ Body a.version a.node → ((graph : Graph) (s : Core) → IsRight graph s a → body_now graph s a.node ≡ v)
    → new ≡ on_work book a.node (with_body v) → (graph : Graph) → MakesAnswer graph book a new
body-makes book new a v is right made graph s fits h is_right =
    let n = a.node in
    made ∙ ap (λ (v : Value). on_work book n (with_body v)) (sym (right graph s is_right))
    ∙ ap (λ (f : Book). on_work (record book { book = f }) n (with_body (body_now graph s n))) fits.parts
    ∙ ap (λ (ws : List Work). record book { book = record (book_of s) { works = ws } }) (sym (changed-works n (keep_body (body_now graph s n)) (with_body (body_now graph s n)) (λ c. refl) s.cells))
    ∙ ap (λ (step : Step). book_after graph s step book) (sym is)
