use Rattle.sweep.proofs.Looks.{look-live, look-left, look-has, look-done, look-makes}
use Rattle.sweep.proofs.looking.look.Goals as goal

pub value_for-value-requires-clause-entry : goal.value_for-value-requires-clause-entry
value_for-value-requires-clause-entry c = look-has c.args.book.now c.args.list.now c.args.version c.requires

pub value_for-value-requires-clause-done : goal.value_for-value-requires-clause-done
value_for-value-requires-clause-done c = look-done c.args.book.now c.args.list.now c.args.version c.requires

pub look-requires-clause-live : goal.look-requires-clause-live
look-requires-clause-live c = look-live c.args.book.now c.args.list.now c.args.version c.requires

pub look-requires-clause-left : goal.look-requires-clause-left
look-requires-clause-left c = look-left c.args.book.now c.args.list.now c.args.version c.requires

pub returns : goal.returns
returns c = look-makes c.args.book.now c.look.new.self c.args.list.now c.args.version c.value_for-value.result c.value_for-value.ensures c.look.ensures
