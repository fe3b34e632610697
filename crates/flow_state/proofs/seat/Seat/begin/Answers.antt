use Rattle.std.proofs.Common.{ℕ, sym, ap, ◌∙◌, subst}
use Rattle.node_set.specs.Members.{Members}
use Rattle.flow_state.specs.Booked.{AreInside}
use Rattle.flow_state.specs.Rooms.{Roomy}
use Rattle.flow_state.specs.Seats.{Seated}
use Rattle.flow_state.proofs.seat.Seat.begin.Goals as goal

pub want_all-requires-clause-inside : goal.want_all-requires-clause-inside
want_all-requires-clause-inside c =
    let size = ap (λ (m : Members). m.size) c.want_none.ensures.wanted ∙ ap (λ (s : Seated). s.size) c.self.view_is in
    subst (λ (n : ℕ). AreInside n c.as_slice.result.now) (sym size) (subst (AreInside c.args.self.now.size) (ap (λ (r : Roomy). r.sets) (sym c.room.view_is) ∙ sym c.as_slice.ensures.value) c.requires.sets)
