-- The nodes at which steps read are nodes of the graph.
use Rattle.std.proofs.Common.{◌≡◌, ℕ, ◌<◌, ◌==◌, true, List, ◌⊎◌, inl, inr, Some, length, ◌∙◌, arith}
use Rattle.std.proofs.lemmas.List.Folds.{list_any-append}
use Rattle.std.proofs.lemmas.Bool.{or_cases, or_left}
use Rattle.script_tree.proofs.Truths.{and_left}
use Rattle.signal_graph.specs.Graph.{Graph, IsGraph, node_at, is_in, inputs_of}
use Rattle.signal_graph.proofs.Members.{get-in}
use Rattle.flow_model.specs.declared.step.Step.TheVariants as step
use Rattle.flow_model.specs.Machine.State.{Core, call}
use Rattle.flow_model.specs.Machine.Words.{at_front, is_candidate, prior_picks, next_look}
use Rattle.flow_model.specs.Machine.Steps.{allowed}
use Rattle.flow_model.specs.Kept.Lawful.{IsLawful}
use Rattle.flow_model.proofs.OneStep.WhoMayStep.{gather-due, due-can_work, can_work-at_front, at_front-heads, executes-live, look-idle}
use Rattle.flow_model.proofs.Wants.EarlierNodes.{dep-earlier}
use Rattle.flow_model.proofs.Work.WorkAtOneNode.{gather-asked}
use Rattle.flow_model.proofs.Edges.EdgesFitCandidates.{candidate-listed}
use Rattle.flow_model.proofs.Opening.OpeningLists.{candidate-earlier}
use Rattle.flow_model.proofs.Known.Bounds.{names-nodes}
use Rattle.flow_model.proofs.Lengths.WorthFalls.{head-there}
use Rattle.node_versions.specs.Entries.{Versions}
use Rattle.flow_state.specs.Booked.{Booked}
use Rattle.interleave_core.specs.Whole.{Whole, state_of}
use Rattle.interleave_core.proofs.Fits.{all_nodes}
use Rattle.interleave_core.proofs.StepsMade.{CanMake, can_here}

-- what a call gathers
pub input-there : (graph : Graph) → IsGraph graph → (s : Core) → IsLawful graph s → (t n m : ℕ)
    → allowed graph s (step.Gather t n m) ≡ true → m < length graph.nodes
input-there graph g s h t n m a = go (or_cases (is_in m (inputs_of (node_at graph n))) (is_candidate s n m) (gather-asked graph s t n m a))
  where
    front : at_front graph s t n ≡ true
    front = can_work-at_front graph s t n (due-can_work graph s t n (gather-due graph s t n m a))

    inside : n < length graph.nodes
    inside = head-there graph s h t n front

    go : (is_in m (inputs_of (node_at graph n)) ≡ true) ⊎ (is_candidate s n m ≡ true) → m < length graph.nodes
    go (inl k) =
        let either = or_left (is_in m (inputs_of (node_at graph n))) (is_in m (prior_picks s t n)) k in
        let among = list_any-append (λ y. y == m) (inputs_of (node_at graph n)) (prior_picks s t n) ∙ either in
        let r = dep-earlier graph g s h t n m inside among in
        omega (arith, inside, r)
    go (inr k) =
        let r = candidate-earlier graph g n m inside (candidate-listed graph s h t n m (at_front-heads graph s t n front) k) in
        omega (arith, inside, r)

-- what a call looks at next
pub look-there : (graph : Graph) → IsGraph graph → (s : Core) → IsLawful graph s → (t m : ℕ) → allowed graph s (step.Look t) ≡ true
    → next_look s t ≡ Some m → m < length graph.nodes
look-there graph g s h t m a e =
    (names-nodes graph g s h).looks t m (executes-live s t (and_left _ _ (and_left _ _ (look-idle graph s t a))))
    (get-in (call s t).looks (length (call s t).looked) m e)

-- ---- among the lists of a core

pub input_below : {graph : Graph} {book : Booked} {lists : List Versions} {seen : Whole} (t n m : ℕ)
    → CanMake graph book lists seen (step.Gather t n m) → m < length lists
input_below {graph} {book} {lists} t n m can =
    let node = input-there graph can.kept.is_graph (state_of book.book lists) can.kept.lawful t n m (can_here can) in
    let many = all_nodes graph book lists can.kept in
    omega (arith, node, many)

pub look_below : {graph : Graph} {book : Booked} {lists : List Versions} {seen : Whole} (t m : ℕ)
    → CanMake graph book lists seen (step.Look t) → next_look (state_of book.book lists) t ≡ Some m → m < length lists
look_below {graph} {book} {lists} t m can e =
    let node = look-there graph can.kept.is_graph (state_of book.book lists) can.kept.lawful t m (can_here can) e in
    let many = all_nodes graph book lists can.kept in
    omega (arith, node, many)
