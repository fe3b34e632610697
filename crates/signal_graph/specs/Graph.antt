-- A graph: the names of its nodes and the nodes, in the order of declaration. Node numbers count from 0.
use Rattle.std.specs.Prelude.{◌≡◌, ℕ, ◌+◌, ◌<◌, ◌≤◌, Bool, true, false, IsTrue, ◌&&◌, not, ◌==◌, if◌then◌else◌}
use Rattle.std.specs.Prelude.{List, [], ◌∷◌, ◌++◌, length, map, filter, Option, Some, None, slice_index_or}
use Rattle.std.specs.List.{AllByRecursion, list_any}
use Rattle.std.specs.Str.{bytes_eq}
use Rattle.script_tree.specs.declared.limits.TheConstants.{NODES, INPUTS, CANDIDATES, SELECTORS}
use Rattle.script_tree.specs.declared.value.Value.{Value}
use Rattle.script_tree.specs.declared.value.Value.TheVariants.{Int, Bool as Truth, Fault as Faulty}
use Rattle.script_tree.specs.declared.value.Fault.TheVariants.{Kind}
use Rattle.script_tree.specs.Scripts.{Scripted, WellFormed, HasNoPicks, HasNoAcc, IsBody, standing}
use Rattle.script_tree.specs.Names.{place_in}
use Rattle.signal_graph.specs.declared.node.NodeKind as kinds
use Rattle.signal_graph.specs.declared.node.NodeKind.TheVariants as kind
use Rattle.signal_graph.specs.declared.node.Selector.{Selector}
use Rattle.signal_graph.specs.declared.node.Node.{Node}
use Rattle.signal_graph.specs.declared.node.Node.TheVariants.{Source, Signal, Fold, Choose}

pub record Graph : Type 0 where
  pub names : List (List ℕ)
  pub nodes : List Node

-- the graph without nodes
abbrev pub no_nodes : Graph
no_nodes = record { names = []; nodes = [] }

abbrev pub node_at : Graph → ℕ → Node
node_at graph n = slice_index_or graph.nodes n (Source (Faulty Kind))

abbrev pub name_at : Graph → ℕ → List ℕ
name_at graph n = slice_index_or graph.names n []

abbrev pub number_of : Graph → List ℕ → ℕ
number_of graph name = place_in graph.names name

-- the numbers of the nodes of a graph, counted from n
abbrev pub numbers_from : ℕ → List Node → List ℕ
numbers_from n [] = []
numbers_from n (node ∷ rest) = n ∷ numbers_from (n + 1) rest

abbrev pub numbers : Graph → List ℕ
numbers graph = numbers_from 0 graph.nodes

abbrev pub is_in : ℕ → List ℕ → Bool
is_in n ns = list_any (λ m. m == n) ns

abbrev pub kind_of : Node → kinds.NodeKind
kind_of (Source start) = kind.Source
kind_of (Signal script inputs) = kind.Signal
kind_of (Fold start script inputs) = kind.Fold
kind_of (Choose selectors body inputs) = kind.Choose

abbrev pub is_source : Node → Bool
is_source (Source start) = true
is_source node = false

-- the nodes that a node's scripts name
abbrev pub inputs_of : Node → List ℕ
inputs_of (Source start) = []
inputs_of (Signal script inputs) = inputs
inputs_of (Fold start script inputs) = inputs
inputs_of (Choose selectors body inputs) = inputs

abbrev pub selectors_of : Node → List Selector
selectors_of (Choose selectors body inputs) = selectors
selectors_of node = []

abbrev pub body_of : Node → Option Scripted
body_of (Choose selectors body inputs) = body
body_of node = None

-- the first selector's script, for a choose without a body
abbrev pub first_script : List Selector → Option Scripted
first_script [] = None
first_script (selector ∷ rest) = Some selector.script

-- the scripts of a node whose names are its inputs; a body has no names
abbrev pub scripts_of : Node → List Scripted
scripts_of (Source start) = []
scripts_of (Signal script inputs) = script ∷ []
scripts_of (Fold start script inputs) = script ∷ []
scripts_of (Choose selectors body inputs) = map (λ (selector : Selector). selector.script) selectors

-- whether a name stands in the tree of one of a node's scripts
abbrev pub stands_in : List ℕ → Node → Bool
stands_in name node = list_any (λ (script : Scripted). list_any (bytes_eq name) (standing script.names script.tree)) (scripts_of node)

-- the one script of a node without a body; a source has none
abbrev pub script_of : Node → Option Scripted
script_of (Source start) = None
script_of (Signal script inputs) = Some script
script_of (Fold start script inputs) = Some script
script_of (Choose selectors body inputs) = first_script selectors

-- the different numbers of a list, in the order of first appearance, behind those that were seen
abbrev pub different_from : List ℕ → List ℕ → List ℕ
different_from seen [] = []
different_from seen (n ∷ ns) = if is_in n seen then different_from seen ns else n ∷ different_from (n ∷ seen) ns

abbrev pub different : List ℕ → List ℕ
different ns = different_from [] ns

abbrev pub inputs_of_all : List Selector → List ℕ
inputs_of_all [] = []
inputs_of_all (selector ∷ rest) = selector.inputs ++ inputs_of_all rest

-- the nodes whose scripts name a node; a candidate is no such reason
abbrev pub static_outs : Graph → ℕ → List ℕ
static_outs graph m = filter (λ n. is_in m (inputs_of (node_at graph n))) (numbers graph)

-- a start value is a number or a truth
abbrev pub is_start : Value → Bool
is_start (Int x) = true
is_start (Truth b) = true
is_start (Faulty f) = false

-- a script's inputs are the nodes that have its names
abbrev pub Resolves : List (List ℕ) → Scripted → List ℕ → Type 0
Resolves names script inputs = map (λ n. slice_index_or names n []) inputs ≡ script.names

-- what every script keeps
abbrev pub Kept : Scripted → Type 0
Kept script = WellFormed script.names script.tree

-- the same of a body, where there is one
abbrev pub BodyKept : Option Scripted → Type 0
BodyKept None = Unit {0}
BodyKept (Some body) = Kept body

-- a selector has 1 to 64 candidates, and a script without `acc` and picks
pub record IsSelector (names : List (List ℕ)) (n : ℕ) (selector : Selector) : Type 0 where
  pub some : 1 ≤ length selector.candidates
  pub few : length selector.candidates ≤ CANDIDATES
  pub no_acc : HasNoAcc selector.script
  pub no_picks : HasNoPicks selector.script
  pub resolves : Resolves names selector.script selector.inputs
  pub inputs_earlier : AllByRecursion (λ m. m < n) selector.inputs
  pub candidates_earlier : AllByRecursion (λ m. m < n) selector.candidates
  pub kept : Kept selector.script

-- with two or more selectors there is a body, and a body is one for as many picks as there are selectors
abbrev pub BodyFits : ℕ → Option Scripted → Type 0
BodyFits selectors None = selectors ≤ 1
BodyFits selectors (Some body) = IsBody selectors body

-- what the node with the number n keeps: it names earlier nodes alone
abbrev pub IsNode : List (List ℕ) → ℕ → Node → Type 0
IsNode names n (Source start) = IsTrue (is_start start)
IsNode names n (Signal script inputs) =
    HasNoAcc script × HasNoPicks script × Resolves names script inputs × AllByRecursion (λ m. m < n) inputs × Kept script
IsNode names n (Fold start script inputs) =
    IsTrue (is_start start) × HasNoPicks script × Resolves names script inputs × AllByRecursion (λ m. m < n) inputs × Kept script
IsNode names n (Choose selectors body inputs) =
    (1 ≤ length selectors) × (length selectors ≤ SELECTORS) × AllByRecursion (IsSelector names n) selectors
    × BodyFits (length selectors) body
    × (inputs ≡ different (inputs_of_all selectors)) × (length inputs ≤ INPUTS) × BodyKept body

abbrev pub AreNodes : List (List ℕ) → ℕ → List Node → Type 0
AreNodes names n [] = Unit {0}
AreNodes names n (node ∷ rest) = IsNode names n node × AreNodes names (n + 1) rest

-- no name stands twice
abbrev pub are_different : List (List ℕ) → Bool
are_different [] = true
are_different (name ∷ names) = not (list_any (bytes_eq name) names) && are_different names

-- what every graph keeps
pub record IsGraph (graph : Graph) : Type 0 where
  pub named : length graph.names ≡ length graph.nodes
  pub few : length graph.nodes ≤ NODES
  pub different_names : IsTrue (are_different graph.names)
  pub nodes : AreNodes graph.names 0 graph.nodes
