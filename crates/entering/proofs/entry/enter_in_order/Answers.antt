use Rattle.std.proofs.Common.{refl}
use Rattle.flow_state.specs.Booked.{call_in}
use Rattle.entering.proofs.Entrances.{place-is, can_link_left, can_link_right, enters}
use Rattle.entering.proofs.Stopping.{entries-stop}
use Rattle.entering.proofs.entry.enter_in_order.Goals as goal

pub place_in-place-requires-clause-to_the_end : goal.place_in-place-requires-clause-to_the_end
place_in-place-requires-clause-to_the_end c =
    let k = c.requires in
    entries-stop k.graph k.state c.args.book.now c.args.node c.args.list.now c.args.version k.can

pub link_left-requires-clause-can : goal.link_left-requires-clause-can
link_left-requires-clause-can c =
    let k = c.requires in
    let at = place-is k.graph k.state c.args.book.now c.args.node c.args.list.now c.args.version c.place_in-place.result k.can c.place_in-place.ensures.place in
    can_link_left k.graph k.state c.args.book.now c.args.node c.args.list.now c.args.version c.place_in-place.result c.version_before-left.result k.can at c.version_before-left.ensures

pub link_right-requires-clause-can : goal.link_right-requires-clause-can
link_right-requires-clause-can c =
    let k = c.requires in
    let at = place-is k.graph k.state c.args.book.now c.args.node c.args.list.now c.args.version c.place_in-place.result k.can c.place_in-place.ensures.place in
    can_link_right k.graph k.state c.args.book.now c.link_left.new.book c.args.node c.args.list.now c.args.version c.place_in-place.result c.args.state c.version_before-left.result c.version_at-right.result k.can at c.version_before-left.ensures c.version_at-right.ensures c.link_left.ensures

pub returns : goal.returns
returns c = enters c.args.book.now c.link_left.new.book c.link_right.new.book c.args.node c.args.list.now c.put_at.new.list c.args.version c.place_in-place.result (call_in c.args.book.now c.args.version).slot c.args.state c.version_before-left.result c.version_at-right.result
    c.place_in-place.ensures.place c.version_before-left.ensures c.version_at-right.ensures refl c.link_left.ensures c.link_right.ensures c.put_at.ensures
