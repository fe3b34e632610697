use Rattle.std.proofs.Common.{◌∙◌}
use Rattle.step_rules.proofs.Inside.{turn-next}
use Rattle.step_rules.proofs.next_step.next.Goals as goal

pub returns-clause-turn : goal.returns-clause-turn
returns-clause-turn g c = λ s w. c.turn_of.ensures.turn ∙ turn-next c.args.graph.now s c.args.book.now (g.L.Lists.listing_of c.args.lists.now) (g.L.Lists.nodes c.args.lists.now) w c.args.version c.requires.live
