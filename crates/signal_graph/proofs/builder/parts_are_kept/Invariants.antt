use Rattle.std.proofs.Common.{take}
use Rattle.std.specs.List.{All}
use Rattle.signal_graph.specs.Declarations.{Part}
use Rattle.signal_graph.specs.Graph.{Kept}
use Rattle.signal_graph.proofs.builder.parts_are_kept.Given as goal

abbrev pub invariant-loop-part : goal.invariant-loop-part
invariant-loop-part l = All (λ (part : Part). Kept part.0) (take l.part-index l.parts)
