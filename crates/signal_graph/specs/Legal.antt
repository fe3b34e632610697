-- Legal logs: each reply is the one-thread machine's, with the calls made one after the other from the start state.
use Rattle.std.specs.Prelude.{◌≡◌, List, [], ◌∷◌}
use Rattle.script_tree.specs.declared.value.Value.{Value}
use Rattle.signal_graph.specs.declared.log.Logged.{Logged}
use Rattle.signal_graph.specs.Graph.{Graph}
use Rattle.signal_graph.specs.Values.{Values, values, start}
use Rattle.signal_graph.specs.Machine.{after, reply}

abbrev pub LegalFrom : Graph → Values → List Logged → Type 0
LegalFrom graph kept [] = Unit {0}
LegalFrom graph kept (entry ∷ log) = (entry.reply ≡ reply graph kept entry.call) × LegalFrom graph (after graph kept entry.call) log

abbrev pub Legal : Graph → List Logged → Type 0
Legal graph log = LegalFrom graph (start graph) log

-- the state after the calls of a log
abbrev pub state_from : Graph → Values → List Logged → Values
state_from graph kept [] = kept
state_from graph kept (entry ∷ log) = state_from graph (after graph kept entry.call) log

abbrev pub state_after : Graph → List Logged → Values
state_after graph log = state_from graph (start graph) log

-- all values after the calls of a log
abbrev pub finals : Graph → List Logged → List Value
finals graph log = values graph (state_after graph log)
