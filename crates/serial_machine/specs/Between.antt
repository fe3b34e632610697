-- A reply from the values of all nodes before a call and after it.
use Rattle.std.specs.Prelude.{ℕ, Bool, cond, not, ◌&&◌, List, ◌++◌, length, map, filter}
use Rattle.std.specs.List.{list_any}
use Rattle.script_tree.specs.declared.value.Value.{Value}
use Rattle.signal_graph.specs.declared.node.Node.{Node}
use Rattle.signal_graph.specs.declared.call.Call.{Call}
use Rattle.signal_graph.specs.declared.call.Call.TheVariants.{Fire, Read}
use Rattle.signal_graph.specs.declared.call.Reply.{Reply}
use Rattle.signal_graph.specs.declared.call.Reply.TheVariants.{Fire as Fired, Read as Seen}
use Rattle.signal_graph.specs.Graph.{Graph, node_at, number_of, numbers, is_source, inputs_of}
use Rattle.signal_graph.specs.Values.{Values, at, picks_of, nodes_in}
use Rattle.signal_graph.specs.Machine.{differs}

-- a node is no source, and a node that its value rested on before has another value now
abbrev pub is_evaluated : Values → Values → Node → Bool
is_evaluated before now node = not (is_source node) && list_any (differs before now) (inputs_of node ++ nodes_in (picks_of node before))

-- 1 for a test that holds
abbrev pub one_if : Bool → ℕ
one_if test = cond test 1 0

abbrev pub count_changed : Graph → Values → Values → ℕ
count_changed graph before now = length (filter (differs before now) (numbers graph))

abbrev pub count_evaluated : Graph → Values → Values → ℕ
count_evaluated graph before now = length (filter (λ n. is_evaluated before now (node_at graph n)) (numbers graph))

-- the values of the nodes with these names
abbrev pub looked_in : Graph → Values → List (List ℕ) → List Value
looked_in graph now looks = map (λ name. at now (number_of graph name)) looks

abbrev pub reply_between : Graph → Values → Values → Call → Reply
reply_between graph before now (Fire sets looks) =
    Fired (count_changed graph before now) (count_evaluated graph before now) (looked_in graph now looks)
reply_between graph before now (Read looks) = Seen (looked_in graph now looks)
