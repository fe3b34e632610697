-- When the value of a node can be found.
use Rattle.std.specs.Prelude.{◌≡◌, ℕ, ◌≤◌, List, length}
use Rattle.std.specs.List.{AllByRecursion}
use Rattle.script_tree.specs.declared.limits.TheConstants.{SELECTORS}
use Rattle.script_tree.specs.Scripts.{Scripted, HasNoPicks}
use Rattle.signal_graph.specs.declared.node.Selector.{Selector}
use Rattle.signal_graph.specs.declared.node.Node.{Node}
use Rattle.signal_graph.specs.declared.node.Node.TheVariants.{Source, Signal, Fold, Choose}
use Rattle.signal_graph.specs.Graph.{BodyFits}

-- a script that isn't a body runs over one input for each of its names
pub record CanRun (script : Scripted) (inputs : List ℕ) : Type 0 where
  pub fits : length inputs ≡ length script.names
  pub no_picks : HasNoPicks script

abbrev pub CanSelect : Selector → Type 0
CanSelect selector = CanRun selector.script selector.inputs

-- the selectors of a choose can be run, and its body is one for their picks
abbrev pub CanEvaluate : Node → Type 0
CanEvaluate (Source start) = Unit {0}
CanEvaluate (Signal script inputs) = CanRun script inputs
CanEvaluate (Fold start script inputs) = CanRun script inputs
CanEvaluate (Choose selectors body inputs) = AllByRecursion CanSelect selectors × (length selectors ≤ SELECTORS)
    × BodyFits (length selectors) body
