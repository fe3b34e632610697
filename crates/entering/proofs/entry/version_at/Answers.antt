use Rattle.entering.proofs.Places.{first_at}
use Rattle.entering.proofs.entry.version_at.Goals as goal

pub returns : goal.returns
returns c = first_at c.args.list.now.entries c.args.index c.get.result.now c.get.ensures
