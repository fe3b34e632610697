use Rattle.std.proofs.Common.{◌∙◌}
use Rattle.signal_graph.proofs.GraphNames.{index_finds, found_has_name, none_has_name}
use Rattle.signal_graph.proofs.names.NameTable.find.Goals as goal

pub returns-clause-value : goal.returns-clause-value
returns-clause-value c =
    rw (← c.self.view_is, ← c.as_slice.ensures, ← index_finds _ _ c.self.invariant c.as_slice.result.now) (c.copied.ensures ∙ c.get.ensures.value)

pub returns-clause-some : goal.returns-clause-some
returns-clause-some c = found_has_name c.args.self.now c.args.name.now c.copied.result (returns-clause-value c)

pub returns-clause-none : goal.returns-clause-none
returns-clause-none c = none_has_name c.args.self.now c.args.name.now c.copied.result (returns-clause-value c)
