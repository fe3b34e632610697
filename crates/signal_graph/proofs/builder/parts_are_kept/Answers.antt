use Rattle.std.proofs.Common.{subst}
use Rattle.std.specs.List.{All}
use Rattle.std.proofs.lemmas.List.{take_all}
use Rattle.std.proofs.lemmas.List.Elements.{All-more}
use Rattle.signal_graph.specs.Declarations.{Part}
use Rattle.signal_graph.specs.Graph.{Kept}
use Rattle.signal_graph.proofs.builder.parts_are_kept.Goals as goal

pub loop-part-preserved : goal.loop-part-preserved
loop-part-preserved c =
    All-more (λ (part : Part). Kept part.0) c.args.parts.now c.loop-part.part-index c.part-item.result c.loop-part-test.true c.loop-part.invariant
    (subst (λ (part : Part). Kept part.0) c.part-item.is c.well_formed-in-loop-part.ensures)

pub returns : goal.returns
returns c = subst (All (λ (part : Part). Kept part.0)) (take_all c.loop-part.part-index c.args.parts.now c.loop-part-test.false) c.loop-part.invariant
