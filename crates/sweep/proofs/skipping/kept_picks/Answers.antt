use Rattle.std.proofs.Common.{sym, ◌∙◌}
use Rattle.std.proofs.lemmas.List.{nil_from_length}
use Rattle.signal_graph.specs.Graph.{node_at, selectors_of}
use Rattle.sweep.proofs.skipping.kept_picks.Goals as goal

pub returns-then-selectors-eq0 : goal.returns-then-selectors-eq0
returns-then-selectors-eq0 c = c.new.ensures ∙ sym (c.requires.fit (nil_from_length (selectors_of (node_at c.args.graph.now c.args.node)) (sym c.selectors.ensures ∙ c.if-selectors-eq0.true)))
