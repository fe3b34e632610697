-- The canonical text of a deck: the lines of its declarations and threads, each with its canonical words and a line feed.
use Rattle.std.specs.Prelude.{ℕ, List, [], ◌∷◌, ◌++◌, map}
use Rattle.std.specs.List.{flat_map, zip}
use Rattle.signal_graph.specs.declared.builder.DeclKind.{DeclKind}
use Rattle.signal_graph.specs.declared.builder.DeclKind.TheVariants as kind
use Rattle.signal_graph.specs.declared.call.Call.{Call}
use Rattle.signal_graph.specs.declared.node.Node.{Node}
use Rattle.signal_graph.specs.declared.node.Node.TheVariants.{Source, Signal, Fold, Choose}
use Rattle.signal_graph.specs.declared.node.Selector.{Selector}
use Rattle.signal_graph.specs.Declarations.{Part}
use Rattle.signal_graph.specs.Graph.{Graph, name_at}
use Rattle.deck_lines.specs.declared.line.Line.{Line}
use Rattle.deck_lines.specs.declared.line.Line.TheVariants.{Declares, Thread, Calls}
use Rattle.deck_lines.specs.Canonical.{line_text}
use Rattle.deck_text.specs.Decks.{Decked}

-- a selector with the names of its candidates
abbrev pub part_of : Graph → Selector → Part
part_of graph selector = (selector.script, map (name_at graph) selector.candidates)

-- what a node is declared as
abbrev pub declared_as : Graph → Node → DeclKind
declared_as graph (Source start) = kind.Source start
declared_as graph (Signal script inputs) = kind.Signal script
declared_as graph (Fold start script inputs) = kind.Fold start script
declared_as graph (Choose selectors body inputs) = kind.Choose (map (part_of graph) selectors) body

-- the line that declares a node of this name
abbrev pub declaration : Graph → List ℕ × Node → Line
declaration graph named = Declares named.0 (declared_as graph named.1)

-- the lines of a thread
abbrev pub thread_lines : List Call → List Line
thread_lines calls = Thread ∷ map Calls calls

-- the lines of a deck that say something: its declarations in their order, then its threads with their calls
abbrev pub lines_of : Decked → List Line
lines_of deck = map (declaration deck.graph) (zip deck.graph.names deck.graph.nodes) ++ flat_map thread_lines deck.scripts

-- a line as it is printed
abbrev pub line_and_feed : Line → List ℕ
line_and_feed line = line_text line ++ 10 ∷ []

-- the canonical text of a deck
abbrev pub canonical : Decked → List ℕ
canonical deck = flat_map line_and_feed (lines_of deck)
