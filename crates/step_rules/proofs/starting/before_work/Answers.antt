use Rattle.std.proofs.Common.{sym, ◌∙◌}
use Rattle.step_rules.proofs.Inside.{wanted-below}
use Rattle.step_rules.proofs.SeatReads.{seat-wanted}
use Rattle.step_rules.proofs.starting.before_work.Goals as goal

pub framing-requires : goal.framing-requires
framing-requires g c =
    wanted-below c.requires.whole.0 c.requires.whole.1.state c.args.book.now (g.L.Lists.listing_of c.args.lists.now) (g.L.Lists.nodes c.args.lists.now) c.requires.whole.1.whole c.args.version c.in-Some.node (sym (c.first_wanted.ensures ∙ seat-wanted c.args.book.now c.args.version c.args.seat.now c.requires.seat) ∙ c.in-Some.is)
