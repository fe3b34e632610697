use Rattle.std.proofs.Common.{sym, ◌∙◌}
use Rattle.signal_graph.specs.Declarations.{is_undeclared}
use Rattle.signal_graph.proofs.BuilderLists.{parts-hit, parts-miss}
use Rattle.signal_graph.proofs.resolve.first_undeclared_of_parts.Goals as goal

pub returns-then-is_some : goal.returns-then-is_some
returns-then-is_some c =
    parts-hit (is_undeclared c.args.table.now) c.args.parts.now c.as_slice-part-items.result.now c.loop-part.part-index c.part-item.result c.first_undeclared_of_part-unknown.result c.loop-part-test.true c.as_slice-part-items.ensures c.loop-part.invariant c.part-item.is c.first_undeclared_of_part-unknown.ensures (sym c.is_some.ensures ∙ c.if-is_some.true)

pub loop-part-preserved : goal.loop-part-preserved
loop-part-preserved c =
    parts-miss (is_undeclared c.args.table.now) c.as_slice-part-items.result.now c.loop-part.part-index c.part-item.result c.first_undeclared_of_part-unknown.result c.loop-part-test.true c.loop-part.invariant c.part-item.is c.first_undeclared_of_part-unknown.ensures (sym c.is_some.ensures ∙ c.if-is_some.false)
