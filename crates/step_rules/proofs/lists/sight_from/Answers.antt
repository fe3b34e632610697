use Rattle.step_rules.proofs.Seen.{present-sight}
use Rattle.step_rules.proofs.lists.sight_from.Goals as goal

pub returns : goal.returns
returns c = present-sight c.args.list.now.entries c.args.version c.args.own c.len.result c.is_mark.result c.get.result.now c.first_open.result c.open_below.result c.is_kept.ensures.unique c.requires.own c.requires.bound c.len.ensures c.is_mark.ensures c.get.ensures c.first_open.ensures c.open_below.ensures
