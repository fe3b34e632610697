-- Declarations: what a builder is given, the node that it makes of it, and why it refuses one.
use Rattle.std.specs.Prelude.{ℕ, ◌≤◌, Bool, IsTrue, not, nat_lt, if◌then◌else◌, List, [], ◌∷◌, ◌++◌, length, map, find, Option, Some, None}
use Rattle.std.specs.List.{All, AllByRecursion, list_any}
use Rattle.std.specs.Str.{bytes_eq}
use Rattle.script_tree.specs.declared.limits.TheConstants.{NODES, INPUTS, CANDIDATES, SELECTORS}
use Rattle.script_tree.specs.Scripts.{Scripted, HasNoPicks, HasNoAcc}
pub use Rattle.script_tree.specs.Scripts.{different_names_from, different_names}
use Rattle.script_tree.specs.Names.{place_in}
use Rattle.signal_graph.specs.declared.node.Selector.{Selector}
use Rattle.signal_graph.specs.declared.node.Node as nodes
use Rattle.signal_graph.specs.declared.node.Node.TheVariants as node
use Rattle.signal_graph.specs.declared.builder.DeclKind.{DeclKind}
use Rattle.signal_graph.specs.declared.builder.DeclKind.TheVariants.{Source, Signal, Fold, Choose}
use Rattle.signal_graph.specs.declared.builder.GraphFault.{GraphFault}
use Rattle.signal_graph.specs.declared.builder.GraphFault.TheVariants.{DoubleName, UnknownInput, TooManyNodes}
use Rattle.signal_graph.specs.Tables.{is_declared}
use Rattle.signal_graph.specs.Graph.{Graph, is_start, different, inputs_of_all, Kept, BodyKept, BodyFits}

-- a selector's script and the names of its candidates
abbrev pub Part : Type 0
Part = Scripted × List (List ℕ)

-- the names of a part: the script's, then the candidates
abbrev pub names_of_part : Part → List (List ℕ)
names_of_part part = part.0.names ++ part.1

abbrev pub names_of_parts : List Part → List (List ℕ)
names_of_parts [] = []
names_of_parts (part ∷ parts) = names_of_part part ++ names_of_parts parts

-- the names that a declaration uses, in their order
abbrev pub names_of : DeclKind → List (List ℕ)
names_of (Source start) = []
names_of (Signal script) = script.names
names_of (Fold start script) = script.names
names_of (Choose parts body) = names_of_parts parts

-- the names of all selector scripts
abbrev pub script_names : List Part → List (List ℕ)
script_names [] = []
script_names (part ∷ parts) = part.0.names ++ script_names parts

-- one selector: 1 to 64 candidates, and neither `acc` nor a pick in its script
pub record IsPart (part : Part) : Type 0 where
  pub some : 1 ≤ length part.1
  pub few : length part.1 ≤ CANDIDATES
  pub no_acc : HasNoAcc part.0
  pub no_picks : HasNoPicks part.0

-- the selectors and the body of a choose
pub record AreParts (parts : List Part) (over : Option Scripted) : Type 0 where
  pub some : 1 ≤ length parts
  pub few : length parts ≤ SELECTORS
  pub each : AllByRecursion IsPart parts
  pub body : BodyFits (length parts) over
  pub few_names : length (different_names (script_names parts)) ≤ INPUTS

-- what a declaration keeps, whatever its names are
abbrev pub IsDeclaration : DeclKind → Type 0
IsDeclaration (Source start) = IsTrue (is_start start)
IsDeclaration (Signal script) = HasNoAcc script × HasNoPicks script
IsDeclaration (Fold start script) = IsTrue (is_start start) × HasNoPicks script
IsDeclaration (Choose parts body) = AreParts parts body

-- what the scripts of a declaration keep
abbrev pub AreKept : DeclKind → Type 0
AreKept (Source start) = Unit {0}
AreKept (Signal script) = Kept script
AreKept (Fold start script) = Kept script
AreKept (Choose parts body) = All (λ (part : Part). Kept part.0) parts × BodyKept body

-- a selector with the numbers of its names
abbrev pub selector_of : List (List ℕ) → Part → Selector
selector_of names part = record { script = part.0; inputs = map (place_in names) part.0.names; candidates = map (place_in names) part.1 }

-- a choose over its selectors
abbrev pub choose_of : List Selector → Option Scripted → nodes.Node
choose_of selectors body = node.Choose selectors body (different (inputs_of_all selectors))

-- the node that a declaration is, with the numbers of the names that it uses
abbrev pub node_of : List (List ℕ) → DeclKind → nodes.Node
node_of names (Source start) = node.Source start
node_of names (Signal script) = node.Signal script (map (place_in names) script.names)
node_of names (Fold start script) = node.Fold start script (map (place_in names) script.names)
node_of names (Choose parts body) = choose_of (map (selector_of names) parts) body

abbrev pub is_undeclared : List (List ℕ) → List ℕ → Bool
is_undeclared names name = not (is_declared names name)

abbrev pub unknown_input : Option (List ℕ) → Option GraphFault
unknown_input None = None
unknown_input (Some name) = Some (UnknownInput name)

-- the reason to refuse a declaration, if there is one: the first of three in their order
abbrev pub refusal : Graph → List ℕ → DeclKind → Option GraphFault
refusal graph name kind =
    if nat_lt (length graph.nodes) NODES then
    (if is_declared graph.names name then Some DoubleName
    else unknown_input (find (is_undeclared graph.names) (names_of kind)))
    else Some TooManyNodes

-- the graph with one more node at its end
abbrev pub with_declaration : Graph → List ℕ → DeclKind → Graph
with_declaration graph name kind = record { names = graph.names ++ name ∷ []; nodes = graph.nodes ++ node_of graph.names kind ∷ [] }
