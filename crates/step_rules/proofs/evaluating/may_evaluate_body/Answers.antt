use Rattle.step_rules.proofs.Wholes.{given_below}
use Rattle.step_rules.proofs.evaluating.may_evaluate_body.Goals as goal

pub is_touched-requires-clause-inside : goal.is_touched-requires-clause-inside
is_touched-requires-clause-inside g c = given_below c.args.graph.now c.args.book.now (g.L.Lists.listing_of c.args.lists.now) (g.L.Lists.nodes c.args.lists.now) c.args.version c.args.node _ c.in-Some.picks c.requires.whole c.requires.node c.in-Some.ensures.picks
