-- A fire in one pass over the nodes, which gives what the steps of the folds one after the other give.
use Rattle.std.specs.Prelude.{if◌then◌else◌, List, [], ◌∷◌, ◌++◌, length}
use Rattle.std.specs.List.{list_any}
use Rattle.script_tree.specs.declared.value.Value.{Value}
use Rattle.signal_graph.specs.declared.node.Node.{Node}
use Rattle.signal_graph.specs.declared.node.Node.TheVariants.{Source, Signal, Fold, Choose}
use Rattle.signal_graph.specs.declared.call.Call.{Call}
use Rattle.signal_graph.specs.declared.call.Call.TheVariants.{Fire, Read}
use Rattle.signal_graph.specs.Graph.{Graph}
use Rattle.signal_graph.specs.Values.{Values, at, run, node_value}
use Rattle.signal_graph.specs.Machine.{differs, with_sets}

-- a node's value after a fire: a source has what is set, a fold makes a step where an input has another value than
-- before, and any other node follows the new values before it
abbrev pub new_value : Node → Value → Value → Values → Values → Value
new_value (Source start) set old before earlier = set
new_value (Fold start script inputs) set old before earlier =
    if list_any (differs before earlier) inputs then run script inputs earlier old else old
new_value (Signal script inputs) set old before earlier = node_value (Signal script inputs) set earlier
new_value (Choose selectors body inputs) set old before earlier = node_value (Choose selectors body inputs) set earlier

abbrev pub new_from : Values → Values → Values → List Node → Values
new_from before set earlier [] = earlier
new_from before set earlier (node ∷ rest) =
    new_from before set (earlier ++ new_value node (at set (length earlier)) (at before (length earlier)) before earlier ∷ []) rest

-- all values after a call, from all values before it
abbrev pub after_call : Graph → Values → Call → Values
after_call graph before (Fire sets looks) = new_from before (with_sets graph before sets) [] graph.nodes
after_call graph before (Read looks) = before
