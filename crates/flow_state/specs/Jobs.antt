-- What jobs find, from what is gathered.
use Rattle.std.specs.Prelude.{ℕ, ◌<◌, ◌≤◌, List, [], map, length, Option, Some, None, Result, Ok, Err}
use Rattle.std.specs.List.{AllByRecursion}
use Rattle.script_tree.specs.declared.limits.TheConstants.{INPUTS, SELECTORS}
use Rattle.script_tree.specs.declared.value.Fault.{Fault}
use Rattle.script_tree.specs.declared.value.Value.{Value}
use Rattle.script_tree.specs.Scripts.{Scripted, IsBody}
use Rattle.signal_graph.specs.declared.node.Node.{Node}
use Rattle.signal_graph.specs.declared.node.Node.TheVariants as nodes
use Rattle.signal_graph.specs.declared.node.Selector.{Selector}
use Rattle.signal_graph.specs.Graph.{Graph, node_at, body_of}
use Rattle.signal_graph.specs.Evaluation.{CanEvaluate}
use Rattle.flow_model.specs.Machine.State as state
use Rattle.flow_model.specs.Machine.Words.{gathered_of, value_or, finds, body_over}
use Rattle.flow_state.specs.Booked.{Booked, work_at}
use Rattle.flow_state.specs.declared.found.Found.{Found}
use Rattle.flow_state.specs.declared.found.Found.TheVariants.{Candidate, Fault as Faulted}
use Rattle.flow_state.specs.Found.{selection_of}
use Rattle.flow_state.specs.declared.outcome.Outcome.{Outcome}
use Rattle.flow_state.specs.declared.outcome.Outcome.TheVariants as outcome
use Rattle.flow_state.specs.declared.outcome.Answer.{Answer}

-- the value that is gathered of a node
abbrev pub read_from : List (ℕ × Value) → ℕ → Value
read_from gathered m = value_or (gathered_of m gathered)

abbrev pub found_as : Result ℕ Fault → Found
found_as (Ok c) = Candidate c
found_as (Err f) = Faulted f

-- what an evaluation finds, as an outcome
abbrev pub outcome_in : state.Found → Outcome
outcome_in (state.Gives v) = outcome.Value v
outcome_in (state.Selects selections) = outcome.Found (map found_as selections)

-- what selectors have selected, where something is found
abbrev pub items_of : state.Found → List Found
items_of (state.Gives v) = []
items_of (state.Selects selections) = map found_as selections

abbrev pub found_items : Option state.Found → Option (List Found)
found_items None = None
found_items (Some found) = Some (items_of found)

-- The outcome of a job: that of the node's scripts, or where something is found that of its body.
abbrev pub outcome_of : Node → List (ℕ × Value) → Value → Option (List Found) → Outcome
outcome_of node gathered acc None = outcome_in (finds node (read_from gathered) acc)
outcome_of node gathered acc (Some found) = outcome.Body (body_over (body_of node) (read_from gathered) (map selection_of found))

-- the value in an outcome of a node's scripts
abbrev pub value_in : Outcome → Option Value
value_in (outcome.Value v) = Some v
value_in (outcome.Found list) = None
value_in (outcome.Body v) = None

abbrev pub answer_of : Graph → ℕ → ℕ → List (ℕ × Value) → Value → Option (List Found) → Answer
answer_of graph version node gathered acc found = record {
  version = version;
  node = node;
  outcome = outcome_of (node_at graph node) gathered acc found;
}

-- the answer of a value that a node's script gives
abbrev pub value_answer : ℕ → ℕ → Value → Answer
value_answer version node v = record { version = version; node = node; outcome = outcome.Value v }

-- the answer from what a book has of the node
abbrev pub answer_in : Graph → Booked → ℕ → ℕ → Value → Answer
answer_in graph book t n acc = answer_of graph t n (work_at book n).gathered acc (found_items (work_at book n).found)

-- no script of the node names more nodes than there is room for
abbrev pub HasFew : Node → Type 0
HasFew (nodes.Source start) = Unit {0}
HasFew (nodes.Signal script inputs) = length inputs ≤ INPUTS
HasFew (nodes.Fold start script inputs) = length inputs ≤ INPUTS
HasFew (nodes.Choose selectors body inputs) = AllByRecursion (λ (s : Selector). length s.inputs ≤ INPUTS) selectors

-- a body is one for as many picks as were found
abbrev pub FitsBody : Option Scripted → Option (List Found) → Type 0
FitsBody body None = Unit {0}
FitsBody None (Some found) = Unit {0}
FitsBody (Some body) (Some found) = (length found ≤ SELECTORS) × IsBody (length found) body

pub record IsJob (graph : Graph) (node : ℕ) (found : Option (List Found)) : Type 0 where
  pub inside : node < length graph.nodes
  pub evaluates : CanEvaluate (node_at graph node)
  pub few : HasFew (node_at graph node)
  pub body : FitsBody (body_of (node_at graph node)) found
