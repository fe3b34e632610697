use Rattle.std.proofs.Common.{sym, ◌∙◌}
use Rattle.step_rules.proofs.Deciding.{look_below}
use Rattle.step_rules.proofs.reading.may_look.Goals as goal

pub served-requires : goal.served-requires
served-requires g c = look_below c.args.graph.now c.args.book.now (g.L.Lists.listing_of c.args.lists.now) (g.L.Lists.nodes c.args.lists.now) c.args.version c.in-Some.node c.requires.whole c.requires.live (sym c.next_look.ensures ∙ c.in-Some.is)
