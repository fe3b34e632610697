use Rattle.std.proofs.Common.{◌≡◌, map}
use Rattle.signal_graph.specs.Declarations.{selector_of}
use Rattle.signal_graph.proofs.resolve.selectors.Given as goal

abbrev pub invariant-loop-part : goal.invariant-loop-part
invariant-loop-part l = l.selectors ≡ map (selector_of l.table) l.yielded
