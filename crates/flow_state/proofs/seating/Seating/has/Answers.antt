use Rattle.std.proofs.Common.{List, subst, sym, ap, ◌∙◌}
use Rattle.flow_state.specs.Seats.{LiveCalls, has_call, has_version, AreAscending}
use Rattle.flow_state.specs.declared.seating.Tenant.{Tenant}
use Rattle.flow_state.proofs.SeatLemmas.{calls-has}
use Rattle.flow_state.proofs.seating.Seating.has.Goals as goal

pub has_version-requires : goal.has_version-requires
has_version-requires c = subst AreAscending (sym c.as_slice.ensures.value) c.self.invariant.kept.ascending

pub returns : goal.returns
returns c =
    c.has_version.ensures
    ∙ ap (λ (xs : List Tenant). has_version xs c.args.version) c.as_slice.ensures.value
    ∙ sym (calls-has c.self.inside.seats.items c.self.inside.live.items c.args.version c.self.invariant.kept.tenants)
    ∙ ap (λ (l : LiveCalls). has_call l c.args.version) c.self.view_is
