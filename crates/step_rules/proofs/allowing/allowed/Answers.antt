use Rattle.std.proofs.Common.{sym, ◌∙◌}
use Rattle.step_rules.proofs.Deciding.{unknown_refused, known_decided}
use Rattle.step_rules.proofs.allowing.allowed.Goals as goal

pub returns-then-not-is_known-clause-allowed : goal.returns-then-not-is_known-clause-allowed
returns-then-not-is_known-clause-allowed g c = λ s w. unknown_refused c.args.graph.now s c.args.book.now (g.L.Lists.listing_of c.args.lists.now) (g.L.Lists.nodes c.args.lists.now) c.args.step w (sym c.is_known.ensures ∙ c.if-not-is_known.true)

pub returns-clause-allowed : goal.returns-clause-allowed
returns-clause-allowed g c = λ s w. c.may_step.ensures.allowed
    ∙ known_decided c.args.graph.now s c.args.book.now (g.L.Lists.listing_of c.args.lists.now) (g.L.Lists.nodes c.args.lists.now) c.args.step w (sym c.is_known.ensures ∙ c.if-not-is_known.false)
