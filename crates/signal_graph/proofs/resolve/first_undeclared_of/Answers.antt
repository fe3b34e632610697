use Rattle.std.proofs.Common.{not, sym, ap, ◌∙◌}
use Rattle.signal_graph.specs.Declarations.{is_undeclared}
use Rattle.signal_graph.proofs.BuilderLists.{find-hit, find-step}
use Rattle.signal_graph.proofs.resolve.first_undeclared_of.Goals as goal

pub returns-then-not-contains : goal.returns-then-not-contains
returns-then-not-contains c =
    find-hit (is_undeclared c.args.table.now) c.args.names.now c.as_slice-name-items.result.now c.loop-name.name-index c.name-item.result c.copy.result c.loop-name-test.true c.as_slice-name-items.ensures c.loop-name.invariant c.name-item.is
    (ap not (sym c.contains.ensures ∙ c.if-not-contains.true)) c.copy.ensures

pub loop-name-preserved : goal.loop-name-preserved
loop-name-preserved c =
    find-step (is_undeclared c.args.table.now) c.as_slice-name-items.result.now c.loop-name.name-index c.name-item.result c.loop-name-test.true c.loop-name.invariant
    (ap (is_undeclared c.args.table.now) (sym c.name-item.is) ∙ ap not (sym c.contains.ensures ∙ c.if-not-contains.false))
