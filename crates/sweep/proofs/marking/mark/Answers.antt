use Rattle.sweep.proofs.Marks.{mark-can, mark-makes}
use Rattle.sweep.proofs.marking.mark.Goals as goal

pub enter-requires : goal.enter-requires
enter-requires c = mark-can c.args.book.now c.args.node c.args.list.now c.args.version c.is_kept.ensures.some c.requires

pub returns : goal.returns
returns c = mark-makes c.args.book.now c.enter.new.book c.args.node c.args.list.now c.enter.new.list c.args.version c.is_kept.ensures.some c.enter.ensures
