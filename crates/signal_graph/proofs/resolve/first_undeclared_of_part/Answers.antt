use Rattle.std.proofs.Common.{sym, ◌∙◌}
use Rattle.signal_graph.specs.Declarations.{is_undeclared}
use Rattle.signal_graph.proofs.BuilderLists.{front-hit, back-hit}
use Rattle.signal_graph.proofs.resolve.first_undeclared_of_part.Goals as goal

pub returns-then-is_some : goal.returns-then-is_some
returns-then-is_some c =
    front-hit (is_undeclared c.args.table.now) c.args.part.now.0.names c.args.part.now.1 c.inputs.result.now c.first_undeclared_of-unknown.result c.first_undeclared_of-unknown.ensures c.inputs.ensures.names (sym c.is_some.ensures ∙ c.if-is_some.true)

pub returns : goal.returns
returns c =
    back-hit (is_undeclared c.args.table.now) c.args.part.now.0.names c.args.part.now.1 c.inputs.result.now c.first_undeclared_of-unknown.result c.first_undeclared_of.result c.first_undeclared_of-unknown.ensures c.inputs.ensures.names (sym c.is_some.ensures ∙ c.if-is_some.false) c.first_undeclared_of.ensures
