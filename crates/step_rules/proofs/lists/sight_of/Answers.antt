use Rattle.step_rules.proofs.Seen.{absent-sight}
use Rattle.step_rules.proofs.lists.sight_of.Goals as goal

pub returns-in-None : goal.returns-in-None
returns-in-None c = absent-sight c.args.list.now.entries c.args.version c.len.result c.first_open.result c.len.ensures c.first_open.ensures c.in-None.ensures.exact
