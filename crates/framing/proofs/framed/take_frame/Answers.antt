use Rattle.std.proofs.Common.{sym, ◌∙◌}
use Rattle.framing.proofs.Frames.{can_raise, frame_enters, takes_by_raise, takes_by_entry}
use Rattle.framing.proofs.framed.take_frame.Goals as goal

pub raise_mark-requires : goal.raise_mark-requires
raise_mark-requires c = let k = c.requires in can_raise k.graph k.state c.args.book.now c.args.node c.args.list.now c.args.version k.can (sym c.entry_of.ensures.exact ∙ sym c.is_some.ensures ∙ c.if-is_some.true)

pub returns-then-is_some : goal.returns-then-is_some
returns-then-is_some c = takes_by_raise c.args.book.now c.args.node c.args.list.now c.raise_mark.new.self c.args.version (sym c.entry_of.ensures.exact ∙ sym c.is_some.ensures ∙ c.if-is_some.true) c.raise_mark.ensures

pub enter-requires : goal.enter-requires
enter-requires c = let k = c.requires in record { graph = k.graph; state = k.state; can = frame_enters k.graph k.state c.args.book.now c.args.node c.args.list.now c.args.version k.can (sym c.entry_of.ensures.exact ∙ sym c.is_some.ensures ∙ c.if-is_some.false) }

pub returns : goal.returns
returns c = takes_by_entry c.args.book.now c.enter.new.book c.args.node c.args.list.now c.enter.new.list c.args.version (sym c.entry_of.ensures.exact ∙ sym c.is_some.ensures ∙ c.if-is_some.false) c.enter.ensures
