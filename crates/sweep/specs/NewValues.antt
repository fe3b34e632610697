-- The new value of a node, as it follows from a book.
use Rattle.std.specs.Prelude.{ℕ, true, false, Option, Some, None}
use Rattle.script_tree.specs.declared.value.Fault.TheVariants.{NoChoice}
use Rattle.script_tree.specs.declared.value.Value.{Value}
use Rattle.script_tree.specs.declared.value.Value.TheVariants.{Fault as Faulty}
use Rattle.script_tree.specs.Scripts.{Scripted}
use Rattle.signal_graph.specs.Graph.{Graph, node_at, is_source, body_of}
use Rattle.flow_model.specs.Machine.State.{Found}
use Rattle.flow_model.specs.Machine.Words.{gathered_of, value_or, value_over, set_value}
use Rattle.flow_state.specs.Booked.{Booked, call_in, work_at}
use Rattle.flow_model.specs.Parts.Books.{Work}

-- the value that is gathered of a node
abbrev pub gathered_value : Work → ℕ → Value
gathered_value w m = value_or (gathered_of m w.gathered)

-- the value that was found, or that of the one pick
abbrev pub value_found : Work → Option Found → Value
value_found w None = Faulty NoChoice
value_found w (Some found) = value_over None (gathered_value w) found

abbrev pub found_value : Work → Value
found_value w = value_found w w.found

-- a node with a body has the body's value
abbrev pub worked_value : Work → Option Scripted → Value
worked_value w None = found_value w
worked_value w (Some body) = value_or w.body

abbrev pub new_value : Graph → Booked → ℕ → ℕ → Value
new_value graph book t n = elim (is_source (node_at graph n)) [
  | true ↦ set_value n (Faulty NoChoice) (call_in book t).sets
  | false ↦ worked_value (work_at book n) (body_of (node_at graph n))
]
