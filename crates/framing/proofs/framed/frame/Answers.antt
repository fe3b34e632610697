use Rattle.std.proofs.Common.{◌≡◌, ℕ, length, refl, sym, ap, ◌∙◌, subst, arith}
use Rattle.flow_state.specs.Booked.{Booked, live_in, node_count, opened_one}
use Rattle.framing.specs.Framed.{AreBelow, EdgesBelow, wanting_all}
use Rattle.framing.proofs.Wanting.{live-on, all-version}
use Rattle.framing.proofs.Frames.{frame_can, some_frame, book_live, book_nodes, list_entered, list_edges, static_below, frame_makes}
use Rattle.framing.proofs.framed.frame.Goals as goal

pub take_frame-requires : goal.take_frame-requires
take_frame-requires c = some_frame c.args.graph.now c.args.book.now c.args.node c.args.list.now c.args.version c.requires

pub open-requires-clause-live : goal.open-requires-clause-live
open-requires-clause-live c =
    let k = c.requires in
    let graph = c.args.graph.now in
    let can = frame_can graph k.state c.args.book.now c.args.node c.args.list.now c.args.version k.fits k.is_list k.allowed in
    let made = c.take_frame.ensures graph k.state can in
    book_live graph k.state c.args.book.now c.take_frame.new.book c.args.node c.args.list.now c.args.version can made.0

pub open-requires-clause-node : goal.open-requires-clause-node
open-requires-clause-node c =
    let k = c.requires in
    let graph = c.args.graph.now in
    let can = frame_can graph k.state c.args.book.now c.args.node c.args.list.now c.args.version k.fits k.is_list k.allowed in
    let made = c.take_frame.ensures graph k.state can in
    let n = book_nodes graph k.state c.args.book.now c.take_frame.new.book c.args.node c.args.list.now c.args.version can made.0 in
    let a = can.node in
    let b = k.fits.lawful.lists in
    omega (arith, n, a, b)

pub want_all-requires-clause-live : goal.want_all-requires-clause-live
want_all-requires-clause-live c =
    let k = c.requires in
    let graph = c.args.graph.now in
    let can = frame_can graph k.state c.args.book.now c.args.node c.args.list.now c.args.version k.fits k.is_list k.allowed in
    let made = c.take_frame.ensures graph k.state can in
    ap (λ (b : Booked). live_in b c.args.version) c.open.ensures ∙ live-on c.take_frame.new.book c.args.version c.args.version (opened_one c.args.node) (λ _. refl) ∙ book_live graph k.state c.args.book.now c.take_frame.new.book c.args.node c.args.list.now c.args.version can made.0

pub want_all-requires-clause-below : goal.want_all-requires-clause-below
want_all-requires-clause-below c =
    let k = c.requires in
    let graph = c.args.graph.now in
    let can = frame_can graph k.state c.args.book.now c.args.node c.args.list.now c.args.version k.fits k.is_list k.allowed in
    let made = c.take_frame.ensures graph k.state can in
    let n : node_count c.open.new.self ≡ length graph.nodes = ap node_count c.open.ensures ∙ book_nodes graph k.state c.args.book.now c.take_frame.new.book c.args.node c.args.list.now c.args.version can made.0 in
    subst (λ (m : ℕ). AreBelow m c.static_outs.result.now) (sym n) (subst (AreBelow (length graph.nodes)) (sym c.static_outs.ensures) (static_below graph c.args.node))

pub want_active-requires-clause-live : goal.want_active-requires-clause-live
want_active-requires-clause-live c =
    let k = c.requires in
    let graph = c.args.graph.now in
    let can = frame_can graph k.state c.args.book.now c.args.node c.args.list.now c.args.version k.fits k.is_list k.allowed in
    let made = c.take_frame.ensures graph k.state can in
    ap (λ (b : Booked). live_in b c.args.version) c.want_all.ensures ∙ live-on c.open.new.self c.args.version c.args.version (wanting_all c.static_outs.result.now) (all-version c.static_outs.result.now) ∙ ap (λ (b : Booked). live_in b c.args.version) c.open.ensures ∙ live-on c.take_frame.new.book c.args.version c.args.version (opened_one c.args.node) (λ _. refl) ∙ book_live graph k.state c.args.book.now c.take_frame.new.book c.args.node c.args.list.now c.args.version can made.0

pub want_active-requires-clause-entry : goal.want_active-requires-clause-entry
want_active-requires-clause-entry c =
    let k = c.requires in
    let graph = c.args.graph.now in
    let can = frame_can graph k.state c.args.book.now c.args.node c.args.list.now c.args.version k.fits k.is_list k.allowed in
    let made = c.take_frame.ensures graph k.state can in
    list_entered graph k.state c.args.book.now c.args.node c.args.list.now c.take_frame.new.list c.args.version can made.1

pub want_active-requires-clause-below : goal.want_active-requires-clause-below
want_active-requires-clause-below c =
    let k = c.requires in
    let graph = c.args.graph.now in
    let can = frame_can graph k.state c.args.book.now c.args.node c.args.list.now c.args.version k.fits k.is_list k.allowed in
    let made = c.take_frame.ensures graph k.state can in
    let n : node_count c.want_all.new.book ≡ length graph.nodes = ap node_count c.want_all.ensures ∙ ap node_count c.open.ensures ∙ book_nodes graph k.state c.args.book.now c.take_frame.new.book c.args.node c.args.list.now c.args.version can made.0 in
    subst (λ (m : ℕ). EdgesBelow m c.take_frame.new.list.outs) (sym n) (list_edges graph k.state c.args.book.now c.args.node c.args.list.now c.take_frame.new.list c.args.version can made.1)

pub returns : goal.returns
returns c = frame_makes c.args.graph.now c.args.book.now c.take_frame.new.book c.open.new.self c.want_all.new.book c.want_active.new.book c.args.node c.args.list.now c.take_frame.new.list c.args.version c.static_outs.result.now c.take_frame.ensures c.open.ensures c.static_outs.ensures c.want_all.ensures c.want_active.ensures
