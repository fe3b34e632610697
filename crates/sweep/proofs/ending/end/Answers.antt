use Rattle.sweep.proofs.Ends.{end-live, end-first, end-makes}
use Rattle.sweep.proofs.ending.end.Goals as goal

pub end-requires-clause-live : goal.end-requires-clause-live
end-requires-clause-live c = end-live c.args.book.now c.args.version c.requires

pub end-requires-clause-first : goal.end-requires-clause-first
end-requires-clause-first c = end-first c.args.book.now c.args.version c.requires

pub returns : goal.returns
returns c = end-makes c.args.book.now c.end.new.self c.args.version c.end.ensures
