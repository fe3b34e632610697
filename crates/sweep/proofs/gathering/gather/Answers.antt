use Rattle.sweep.proofs.Gathers.{gather-has, gather-done, gather-node, gather-new, gather-room, gather-makes}
use Rattle.sweep.proofs.gathering.gather.Goals as goal

pub value_for-value-requires-clause-entry : goal.value_for-value-requires-clause-entry
value_for-value-requires-clause-entry c = gather-has c.args.book.now c.args.input_list.now c.args.version c.args.node c.args.input c.requires

pub value_for-value-requires-clause-done : goal.value_for-value-requires-clause-done
value_for-value-requires-clause-done c = gather-done c.args.book.now c.args.input_list.now c.args.version c.args.node c.args.input c.requires

pub gather-requires-clause-node : goal.gather-requires-clause-node
gather-requires-clause-node c = gather-node c.args.book.now c.args.input_list.now c.args.version c.args.node c.args.input c.requires

pub gather-requires-clause-new : goal.gather-requires-clause-new
gather-requires-clause-new c = gather-new c.args.book.now c.args.input_list.now c.args.version c.args.node c.args.input c.requires

pub gather-requires-clause-room : goal.gather-requires-clause-room
gather-requires-clause-room c = gather-room c.args.book.now c.args.input_list.now c.args.version c.args.node c.args.input c.requires

pub returns : goal.returns
returns c = gather-makes c.args.book.now c.gather.new.self c.args.input_list.now c.args.version c.args.node c.args.input c.value_for-value.result c.value_for-value.ensures c.gather.ensures
