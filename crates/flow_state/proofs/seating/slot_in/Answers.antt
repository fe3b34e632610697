use Rattle.std.proofs.Common.{arith}
use Rattle.flow_state.proofs.Walks.{slot_found, slot_more}
use Rattle.flow_state.proofs.seating.slot_in.Goals as goal

pub returns-then-tenant-version : goal.returns-then-tenant-version
returns-then-tenant-version c = slot_found c.args.live.now c.args.version c.loop-tenant.tenant-index _ (omega arith) c.loop-tenant.invariant c.if-tenant-version.true

pub loop-tenant-preserved : goal.loop-tenant-preserved
loop-tenant-preserved c = slot_more c.args.live.now c.args.version c.loop-tenant.tenant-index _ (omega arith) c.loop-tenant.invariant c.if-tenant-version.false
