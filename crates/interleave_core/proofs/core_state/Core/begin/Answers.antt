use Rattle.std.proofs.Common.{suc, sym, ap, ◌∙◌, subst}
use Rattle.flow_state.specs.Rooms.{IsRoomFor}
use Rattle.interleave_core.specs.Whole.{Whole, state_of}
use Rattle.interleave_core.proofs.Fits.{fits}
use Rattle.interleave_core.proofs.Begins.{is_beginning, can_begin_here, begun_whole, begun_seen}
use Rattle.interleave_core.proofs.core_state.Core.begin.Goals as goal

pub begin-requires : goal.begin-requires
begin-requires c =
    let m = c.self.inside in
    is_beginning m.graph.now m.book m.lists.items c.args.caller c.args.call c.args.room c.args.self.now c.self.invariant c.self.view_is c.requires.can c.requires.room c.requires.rooms

pub invariant_of-self : goal.invariant_of-self
invariant_of-self c =
    let m = c.self.inside in
    let can = can_begin_here m.graph.now m.book m.lists.items c.args.caller c.args.call c.args.self.now c.self.view_is c.requires.can in
    let made = subst (λ (w : Whole). IsRoomFor w.graph c.args.call c.args.room) (sym c.self.view_is) c.requires.room in
    begun_whole c.lawful_stays.ensures.begin m.graph.now m.book c.begin.new.book m.lists.items c.args.caller c.args.call c.self.invariant can (c.begin.ensures m.graph.now (state_of m.book.book m.lists.items) (fits m.graph.now m.book m.lists.items c.self.invariant) can made).0

pub returns-clause-state : goal.returns-clause-state
returns-clause-state c =
    let m = c.self.inside in
    let can = can_begin_here m.graph.now m.book m.lists.items c.args.caller c.args.call c.args.self.now c.self.view_is c.requires.can in
    let made = subst (λ (w : Whole). IsRoomFor w.graph c.args.call c.args.room) (sym c.self.view_is) c.requires.room in
    begun_seen m.graph.now m.book c.begin.new.book m.lists.items c.args.caller c.args.call c.args.self.now c.self.invariant c.self.view_is (c.begin.ensures m.graph.now (state_of m.book.book m.lists.items) (fits m.graph.now m.book m.lists.items c.self.invariant) can made).0

pub returns-clause-version : goal.returns-clause-version
returns-clause-version c =
    let m = c.self.inside in
    let can = can_begin_here m.graph.now m.book m.lists.items c.args.caller c.args.call c.args.self.now c.self.view_is c.requires.can in
    let made = subst (λ (w : Whole). IsRoomFor w.graph c.args.call c.args.room) (sym c.self.view_is) c.requires.room in
    (c.begin.ensures m.graph.now (state_of m.book.book m.lists.items) (fits m.graph.now m.book m.lists.items c.self.invariant) can made).1
    ∙ ap (λ (w : Whole). suc w.state.begun) c.self.view_is
