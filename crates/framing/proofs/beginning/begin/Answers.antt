use Rattle.framing.proofs.Beginnings.{slot_inside, sets_inside, looks_few, begin_makes}
use Rattle.framing.proofs.beginning.begin.Goals as goal

pub begin-requires-clause-slot : goal.begin-requires-clause-slot
begin-requires-clause-slot c = slot_inside c.requires.graph c.requires.state c.args.book.now c.args.caller c.args.call c.requires.fits c.requires.allowed

pub begin-requires-clause-sets : goal.begin-requires-clause-sets
begin-requires-clause-sets c = sets_inside c.requires.graph c.requires.state c.args.book.now c.args.caller c.args.call c.args.room c.requires.fits c.requires.allowed c.requires.made

pub begin-requires-clause-looks : goal.begin-requires-clause-looks
begin-requires-clause-looks c = looks_few c.requires.graph c.requires.state c.args.caller c.args.call c.args.room c.requires.allowed c.requires.made

pub returns : goal.returns
returns c = begin_makes c.args.book.now c.begin.new.self c.args.caller c.begin.result c.args.call c.args.room c.begin.ensures.book c.begin.ensures.version
