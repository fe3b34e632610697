use Rattle.std.proofs.Common.{◌≡◌, drop}
use Rattle.flow_state.specs.Seats.{slot_in}
use Rattle.flow_state.proofs.seating.slot_in.Given as goal

abbrev pub invariant-loop-tenant : goal.invariant-loop-tenant
invariant-loop-tenant l = slot_in (drop l.tenant-index l.live) l.version ≡ slot_in l.live l.version
