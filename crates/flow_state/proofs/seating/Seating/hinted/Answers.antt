use Rattle.std.proofs.Common.{◌<◌, sym, ap, ◌∙◌, arith}
use Rattle.std.specs.Vec.{vec_capacity}
use Rattle.flow_state.specs.Seats.{Seated}
use Rattle.flow_state.proofs.SeatLemmas.{seat_read}
use Rattle.flow_state.proofs.Hints.{hint_is}
use Rattle.flow_state.proofs.seating.Seating.hinted.Goals as goal

pub returns-then-version-clause-live : goal.returns-then-version-clause-live
returns-then-version-clause-live c =
    let s = c.self.inside in
    let k = c.index.result.now in
    let below : k < s.callers = let h = c.if-slot-self.false in omega (arith, h) in
    let count = c.self.invariant.kept.count in
    let read = seat_read s.seats.items k c.index-seat.result.now (omega (arith, below, count)) c.index-seat.ensures in
    let version = ap (λ (x : Seated). x.call.version) (sym read) ∙ sym c.version.ensures ∙ c.if-version.true in
    (hint_is s.callers s.nodes (vec_capacity s.live) s.seats.items s.live.items s.order c.args.version k c.args.self.now c.self.invariant.kept c.self.view_is below version c.if-version-eq0.false).0

pub returns-then-version-clause-slot : goal.returns-then-version-clause-slot
returns-then-version-clause-slot c =
    let s = c.self.inside in
    let k = c.index.result.now in
    let below : k < s.callers = let h = c.if-slot-self.false in omega (arith, h) in
    let count = c.self.invariant.kept.count in
    let read = seat_read s.seats.items k c.index-seat.result.now (omega (arith, below, count)) c.index-seat.ensures in
    let version = ap (λ (x : Seated). x.call.version) (sym read) ∙ sym c.version.ensures ∙ c.if-version.true in
    (hint_is s.callers s.nodes (vec_capacity s.live) s.seats.items s.live.items s.order c.args.version k c.args.self.now c.self.invariant.kept c.self.view_is below version c.if-version-eq0.false).1
