use Rattle.std.proofs.Common.{◌≡◌, drop}
use Rattle.flow_state.specs.Seats.{has_version}
use Rattle.flow_state.proofs.seating.has_version.Given as goal

abbrev pub invariant-loop-tenant : goal.invariant-loop-tenant
invariant-loop-tenant l = has_version (drop l.tenant-index l.live) l.version ≡ has_version l.live l.version
