use Rattle.framing.proofs.Starts.{start-live, start-makes}
use Rattle.framing.proofs.starting.start.Goals as goal

pub start-requires : goal.start-requires
start-requires c = start-live c.args.book.now c.args.version c.requires

pub returns : goal.returns
returns c = start-makes c.args.book.now c.start.new.self c.args.version c.start.ensures
