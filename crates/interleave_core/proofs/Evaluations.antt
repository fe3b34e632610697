-- What evaluations need, and that their answers are right.
use Rattle.std.proofs.Common.{◌≡◌, ℕ, zero, suc, ◌+◌, ◌<◌, ◌≤◌, true, false, inl, inr, List, [], ◌∷◌, length, map, Option, Some, None, is_some, refl, sym, ap, ◌∙◌, subst, arith}
use Rattle.std.specs.Prelude.{slice_index_or, IfSome}
use Rattle.std.specs.List.{AllByRecursion}
use Rattle.std.specs.Option.{IsSome}
use Rattle.std.proofs.lemmas.List.{length-map}
use Rattle.script_tree.specs.declared.limits.TheConstants.{INPUTS, SELECTORS}
use Rattle.script_tree.specs.declared.value.Fault.TheVariants.{Kind}
use Rattle.script_tree.specs.declared.value.Value.{Value}
use Rattle.script_tree.specs.declared.value.Value.TheVariants.{Fault as Faulty}
use Rattle.script_tree.specs.Scripts.{Scripted, IsBody}
use Rattle.script_tree.proofs.Truths.{and_left}
use Rattle.signal_graph.specs.declared.node.Node.{Node}
use Rattle.signal_graph.specs.declared.node.Node.TheVariants.{Source, Signal, Fold, Choose}
use Rattle.signal_graph.specs.declared.node.NodeKind.TheVariants as kinds
use Rattle.signal_graph.specs.declared.node.Selector.{Selector}
use Rattle.signal_graph.specs.Graph.{Graph, IsGraph, IsNode, IsSelector, node_at, body_of, kind_of}
use Rattle.signal_graph.specs.Evaluation.{CanEvaluate}
use Rattle.signal_graph.proofs.GraphNodes.{all_can_evaluate, node_is}
use Rattle.signal_graph.proofs.ScriptNames.{few_names, few_inputs}
use Rattle.node_versions.specs.Entries.{Versions, has, before, last_done, value_before}
use Rattle.flow_model.specs.declared.step.Step.TheVariants as step
use Rattle.flow_model.specs.Machine.Keys.{list_of_step}
use Rattle.flow_model.specs.Machine.State as state
use Rattle.flow_model.specs.Machine.State.{Core, no_cell, cell, entries}
use Rattle.flow_model.specs.Machine.Words.{at_front, finds, body_over, value_gathered, selections_of}
use Rattle.flow_model.specs.Machine.Steps.{allowed, IsEvaluationDue}
use Rattle.flow_model.specs.Kept.Lawful.{IsLawful}
use Rattle.flow_model.specs.Parts.Books.{Work, work_in, no_work}
use Rattle.flow_model.proofs.OneStep.WhoMayStep.{at_front-heads, executes-live, evaluate-at_front, body-at_front}
use Rattle.flow_model.proofs.Histories.FoundUntilDone.{heads-entry}
use Rattle.flow_model.proofs.Work.WorkAtOneNode.{evaluate-not_found, body-found}
use Rattle.flow_model.proofs.Known.Bounds.{has-bounds}
use Rattle.flow_model.proofs.Known.ListsAnswer.{lists-answer}
use Rattle.flow_model.proofs.Lengths.WorthFalls.{head-there}
use Rattle.flow_state.specs.Booked.{Booked, work_at}
use Rattle.flow_state.specs.declared.outcome.Outcome.{Outcome}
use Rattle.flow_state.specs.declared.outcome.Outcome.TheVariants as outcome
use Rattle.flow_state.specs.Answers.{step_for, step_of, IsOutcome, IsRight}
use Rattle.flow_state.specs.Found.{selection_of}
use Rattle.flow_state.specs.Jobs.{read_from, found_as, outcome_in, items_of, found_items, outcome_of, value_in, answer_of, value_answer, HasFew, FitsBody, IsJob, answer_in}
use Rattle.flow_state.proofs.Outcomes.{selections-back, outcome-right}
use Rattle.interleave_core.specs.Whole.{Whole, cells_of, state_of, whole_of, IsWhole, IsAcc}
use Rattle.interleave_core.proofs.Fits.{all_nodes}
use Rattle.interleave_core.proofs.StepsMade.{CanMake, can_here}

-- ---- where a call evaluates

pub due-front : (graph : Graph) (s : Core) (t n : ℕ) → IsEvaluationDue graph s t n → at_front graph s t n ≡ true
due-front graph s t n (inl a) = evaluate-at_front graph s t n a
due-front graph s t n (inr a) = body-at_front graph s t n a

pub due-there : (graph : Graph) (s : Core) → IsLawful graph s → (t n : ℕ) → IsEvaluationDue graph s t n → n < length graph.nodes
due-there graph s h t n a = head-there graph s h t n (due-front graph s t n a)

pub due-entry : (graph : Graph) (s : Core) → IsLawful graph s → (t n : ℕ) → IsEvaluationDue graph s t n → has (entries s n) t ≡ true
due-entry graph s h t n a = heads-entry graph s h t n (at_front-heads graph s t n (due-front graph s t n a))

pub due-done : (graph : Graph) (s : Core) → IsLawful graph s → (t n : ℕ) → IsEvaluationDue graph s t n → IsSome (last_done (before (entries s n) t))
due-done graph s h t n a =
    (lists-answer graph s h).done_before n t (executes-live s t (and_left _ _ (and_left _ _ (due-front graph s t n a))))
    (due-entry graph s h t n a)

-- ---- the job

-- the work at a node in a book is that in its state
pub work-there : (ws : List Work) (ls : List Versions) (n : ℕ) → length ls ≡ length ws
    → slice_index_or ws n no_work ≡ work_in (slice_index_or (cells_of ws ls) n no_cell)
work-there [] ls n h = refl
work-there (w ∷ ws) [] n h = absurd (omega (arith, h))
work-there (w ∷ ws) (l ∷ ls) zero h = refl
work-there (w ∷ ws) (l ∷ ls) (suc n) h = work-there ws ls n (omega (arith, h))

few-each : (names : List (List ℕ)) (n : ℕ) (selectors : List Selector) → AllByRecursion (IsSelector names n) selectors
    → AllByRecursion (λ (x : Selector). length x.inputs ≤ INPUTS) selectors
few-each names n [] h = tt
few-each names n (x ∷ xs) h = (few_names names x.script x.inputs h.0.resolves h.0.kept, few-each names n xs h.1)

has-few : (names : List (List ℕ)) (n : ℕ) (node : Node) → IsNode names n node → HasFew node
has-few names n (Source start) h = tt
has-few names n (Signal script inputs) h = few_names names script inputs h.2 h.4
has-few names n (Fold start script inputs) h = few_names names script inputs h.2 h.4
has-few names n (Choose selectors body inputs) h = few-each names n selectors h.2

fits-nothing : (body : Option Scripted) → FitsBody body None
fits-nothing None = tt
fits-nothing (Some body) = tt

fits-found : (node : Node) → CanEvaluate node → (read : ℕ → Value) (acc : Value)
    → FitsBody (body_of node) (Some (items_of (finds node read acc)))
fits-found (Source start) can read acc = tt
fits-found (Signal script inputs) can read acc = tt
fits-found (Fold start script inputs) can read acc = tt
fits-found (Choose selectors None inputs) can read acc = tt
fits-found (Choose selectors (Some body) inputs) can read acc =
    (subst (λ (k : ℕ). k ≤ SELECTORS) (sym many) can.1, subst (λ (k : ℕ). IsBody k body) (sym many) can.2)
  where
    many : length (items_of (finds (Choose selectors (Some body) inputs) read acc)) ≡ length selectors
    many = length-map _ found_as ∙ length-map selectors _

-- Where the node's job is due, it can be made.
pub due-job : (graph : Graph) → IsGraph graph → (s : Core) → IsLawful graph s → (t n : ℕ) → IsEvaluationDue graph s t n
    → IsJob graph n (found_items (cell s n).found)
due-job graph g s h t n a = record {
  inside = inside;
  evaluates = can;
  few = has-few graph.names (0 + n) (node_at graph n) (node_is graph.names 0 graph.nodes n (Source (Faulty Kind)) g.nodes inside);
  body = body (cell s n).found refl;
}
  where
    inside : n < length graph.nodes
    inside = due-there graph s h t n a

    can : CanEvaluate (node_at graph n)
    can = all_can_evaluate graph.names graph.nodes g.nodes n (Source (Faulty Kind)) inside

    body : (found : Option state.Found) → (cell s n).found ≡ found → FitsBody (body_of (node_at graph n)) (found_items found)
    body None e = fits-nothing (body_of (node_at graph n))
    body (Some f) e =
        subst (λ (x : state.Found). FitsBody (body_of (node_at graph n)) (Some (items_of x)))
        (sym (h.values_are_read.found t n f (at_front-heads graph s t n (due-front graph s t n a)) e))
        (fits-found (node_at graph n) can (value_gathered s n) (value_before (entries s n) t))

pub due-few : (graph : Graph) → IsGraph graph → (s : Core) → IsLawful graph s → (t n : ℕ) → IsEvaluationDue graph s t n
    → length (cell s n).gathered ≤ 68
due-few graph g s h t n a =
    let b = (has-bounds graph g s h).gathered n in
    let f =
    few_inputs graph.names (0 + n) (node_at graph n)
    (node_is graph.names 0 graph.nodes n (Source (Faulty Kind)) g.nodes (due-there graph s h t n a)) in
    omega (arith, b, f)

-- ---- its answer

items-back : (f : state.Found) → map selection_of (items_of f) ≡ selections_of (Some f)
items-back (state.Gives v) = refl
items-back (state.Selects rs) = selections-back rs

-- Only a fold reads its value before the call.
finds-same : (node : Node) (read : ℕ → Value) (acc before : Value) → (kind_of node ≡ kinds.Fold → acc ≡ before)
    → finds node read acc ≡ finds node read before
finds-same (Source start) read acc before e = refl
finds-same (Signal script inputs) read acc before e = refl
finds-same (Fold start script inputs) read acc before e = ap (finds (Fold start script inputs) read) (e refl)
finds-same (Choose selectors body inputs) read acc before e = refl

-- What the job answers is right.
pub answer-right : (graph : Graph) (s : Core) (t n : ℕ) (acc : Value)
    → (kind_of (node_at graph n) ≡ kinds.Fold → acc ≡ value_before (entries s n) t)
    → IsRight graph s (answer_of graph t n (cell s n).gathered acc (found_items (cell s n).found))
answer-right graph s t n acc e = go (cell s n).found refl
  where
    go : (found : Option state.Found) → (cell s n).found ≡ found
        → IsOutcome graph s t n (outcome_of (node_at graph n) (cell s n).gathered acc (found_items found))
    go None k =
        outcome-right graph s t n (finds (node_at graph n) (read_from (cell s n).gathered) acc)
        (sym (finds-same (node_at graph n) (value_gathered s n) acc (value_before (entries s n) t) e))
    go (Some f) k = ap (body_over (body_of (node_at graph n)) (value_gathered s n)) (ap selections_of k ∙ sym (items-back f))

outcome-step : (t n : ℕ) (x : state.Found) → step_for t n (outcome_in x) ≡ step.Evaluate t n
outcome-step t n (state.Gives v) = refl
outcome-step t n (state.Selects rs) = refl

-- Its step is the one that is due.
pub answer-scripts : (graph : Graph) (s : Core) (t n : ℕ) (acc : Value) → allowed graph s (step.Evaluate t n) ≡ true
    → step_of (answer_of graph t n (cell s n).gathered acc (found_items (cell s n).found)) ≡ step.Evaluate t n
answer-scripts graph s t n acc a = go (cell s n).found (evaluate-not_found graph s t n a)
  where
    go : (found : Option state.Found) → is_some found ≡ false
        → step_for t n (outcome_of (node_at graph n) (cell s n).gathered acc (found_items found)) ≡ step.Evaluate t n
    go None k = outcome-step t n (finds (node_at graph n) (read_from (cell s n).gathered) acc)
    go (Some f) k = cc

pub answer-body : (graph : Graph) (s : Core) (t n : ℕ) (acc : Value) → allowed graph s (step.Body t n) ≡ true
    → step_of (answer_of graph t n (cell s n).gathered acc (found_items (cell s n).found)) ≡ step.Body t n
answer-body graph s t n acc a = go (cell s n).found (body-found graph s t n a)
  where
    go : (found : Option state.Found) → is_some found ≡ true
        → step_for t n (outcome_of (node_at graph n) (cell s n).gathered acc (found_items found)) ≡ step.Body t n
    go None k = cc
    go (Some f) k = refl

-- An answer's step changes no list.
pub answer-quiet : (t n : ℕ) (o : Outcome) → list_of_step (step_for t n o) ≡ None
answer-quiet t n (outcome.Value v) = refl
answer-quiet t n (outcome.Found list) = refl
answer-quiet t n (outcome.Body v) = refl

-- ---- over a book and lists

-- What is due in what is seen is due in the state.
pub due_here : {graph : Graph} {book : Booked} {lists : List Versions} {seen : Whole} (t n : ℕ)
    → IsWhole graph book lists → whole_of graph book lists ≡ seen → IsEvaluationDue seen.graph seen.state t n
    → IsEvaluationDue graph (state_of book.book lists) t n
due_here t n kept view due = subst (λ (w : Whole). IsEvaluationDue w.graph w.state t n) (sym view) due

pub due_below : {graph : Graph} {book : Booked} {lists : List Versions} (t n : ℕ)
    → IsWhole graph book lists → IsEvaluationDue graph (state_of book.book lists) t n → n < length lists
due_below {graph} {book} {lists} t n kept due =
    let node = due-there graph (state_of book.book lists) kept.lawful t n due in
    let many = all_nodes graph book lists kept in
    omega (arith, node, many)

pub same_answer : {graph : Graph} {book : Booked} {lists : List Versions} (t n : ℕ) (acc : Value) → IsWhole graph book lists
    → answer_in graph book t n acc
    ≡ answer_of graph t n (cell (state_of book.book lists) n).gathered acc (found_items (cell (state_of book.book lists) n).found)
same_answer {graph} {book} {lists} t n acc kept =
    ap (λ (w : Work). answer_of graph t n w.gathered acc (found_items w.found)) (work-there book.book.works lists n kept.many)

pub scripts_answered : {graph : Graph} {book : Booked} {lists : List Versions} {seen : Whole} (t n : ℕ) (acc : Value)
    → CanMake graph book lists seen (step.Evaluate t n) → step_of (answer_in graph book t n acc) ≡ step.Evaluate t n
scripts_answered {graph} {book} {lists} t n acc can =
    ap step_of (same_answer t n acc can.kept) ∙ answer-scripts graph (state_of book.book lists) t n acc (can_here can)

pub body_answered : {graph : Graph} {book : Booked} {lists : List Versions} {seen : Whole} (t n : ℕ) (acc : Value)
    → CanMake graph book lists seen (step.Body t n) → step_of (answer_in graph book t n acc) ≡ step.Body t n
body_answered {graph} {book} {lists} t n acc can =
    ap step_of (same_answer t n acc can.kept) ∙ answer-body graph (state_of book.book lists) t n acc (can_here can)

pub right_answered : {graph : Graph} {book : Booked} {lists : List Versions} {seen : Whole} (t n : ℕ) (acc : Value)
    → IsWhole graph book lists → whole_of graph book lists ≡ seen → IsAcc seen.graph seen.state t n acc
    → IsRight seen.graph seen.state (answer_in graph book t n acc)
right_answered {graph} {book} {lists} t n acc kept view reads =
    let here = subst (λ (w : Whole). IsAcc w.graph w.state t n acc) (sym view) reads in
    let right = answer-right graph (state_of book.book lists) t n acc here in
    subst (λ (w : Whole). IsRight w.graph w.state (answer_in graph book t n acc)) view
    (subst (IsRight graph (state_of book.book lists)) (sym (same_answer t n acc kept)) right)

value-in : (o : Outcome) (v : Value) → Some v ≡ value_in o → o ≡ outcome.Value v
value-in (outcome.Value w) v given = cc
value-in (outcome.Found list) v given = cc
value-in (outcome.Body w) v given = cc

-- The value that the node's script gives is right too, whatever is found already.
value-right : {graph : Graph} {book : Booked} {lists : List Versions} {seen : Whole} (t n : ℕ) (acc v : Value)
    → IsWhole graph book lists → whole_of graph book lists ≡ seen → IsAcc seen.graph seen.state t n acc
    → Some v ≡ value_in (outcome_of (node_at graph n) (work_at book n).gathered acc None)
    → IsRight seen.graph seen.state (value_answer t n v)
value-right {graph} {book} {lists} t n acc v kept view reads given =
    let s : Core = state_of book.book lists in
    let here = subst (λ (w : Whole). IsAcc w.graph w.state t n acc) (sym view) reads in
    let same = sym (finds-same (node_at graph n) (value_gathered s n) acc (value_before (entries s n) t) here) in
    let found = finds (node_at graph n) (read_from (cell s n).gathered) acc in
    let work = work-there book.book.works lists n kept.many in
    let there = given ∙ ap (λ (w : Work). value_in (outcome_of (node_at graph n) w.gathered acc None)) work in
    let right = subst (IsOutcome graph s t n) (value-in (outcome_in found) v there) (outcome-right graph s t n found same) in
    subst (λ (w : Whole). IsRight w.graph w.state (value_answer t n v)) view right

pub value_right : {graph : Graph} {book : Booked} {lists : List Versions} {seen : Whole} (t n : ℕ) (acc : Value) (value : Option Value)
    → IsWhole graph book lists → whole_of graph book lists ≡ seen → IsAcc seen.graph seen.state t n acc
    → value ≡ value_in (outcome_of (node_at graph n) (work_at book n).gathered acc None)
    → IfSome value (λ v. IsRight seen.graph seen.state (value_answer t n v))
value_right t n acc None kept view reads given = tt
value_right t n acc (Some v) kept view reads given = value-right t n acc v kept view reads given
