use Rattle.step_rules.proofs.Deciding.{ended_first}
use Rattle.step_rules.proofs.ending.may_collect.Goals as goal

pub can_collect-requires-clause-ended : goal.can_collect-requires-clause-ended
can_collect-requires-clause-ended g c = ended_first c.args._graph.now c.args.book.now (g.L.Lists.listing_of c.args.lists.now) (g.L.Lists.nodes c.args.lists.now) c.args.node c.requires.whole c.requires.node
