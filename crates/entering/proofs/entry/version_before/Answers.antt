use Rattle.entering.proofs.Places.{last_at}
use Rattle.entering.proofs.entry.version_before.Goals as goal

pub returns : goal.returns
returns c = last_at c.args.list.now.entries c.args.index c.get.result.now c.if-index-eq0.false c.get.ensures
