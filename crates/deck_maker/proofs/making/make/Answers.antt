use Rattle.std.proofs.Common.{◌∙◌}
use Rattle.deck_maker.proofs.Steps.{scripts_made, deck_made}
use Rattle.deck_maker.proofs.making.make.Goals as goal

pub new-requires : goal.new-requires
new-requires c =
    deck_made c.args.number c.new-draws.result c.graph.new.draws c.in_ok-graph.graph c.in_ok-scripts.scripts c.workload_is_deck.ensures c.new-draws.ensures c.in_ok-graph.ensures.graph
    c.in_ok-graph.ensures.state c.in_ok-scripts.ensures

pub returns-clause-scripts : goal.returns-clause-scripts
returns-clause-scripts c =
    c.new.ensures.scripts ∙ scripts_made c.args.number c.new-draws.result c.graph.new.draws c.in_ok-scripts.scripts c.new-draws.ensures c.in_ok-graph.ensures.state c.in_ok-scripts.ensures
