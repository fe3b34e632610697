use Rattle.std.proofs.Common.{nat_lt, rules}
use Rattle.public_calls.proofs.lists.collect_below.Goals as goal

pub collect-requires-clause-ended : goal.collect-requires-clause-ended
collect-requires-clause-ended c = (λ e. nat_lt e.version c.args.limit, λ k d h b r. search rules, c.requires)

pub returns : goal.returns
returns c = c.collect.ensures.list (λ e. nat_lt e.version c.args.limit) (λ k d h b r. search rules) c.requires
