use Rattle.std.proofs.Common.{arith}
use Rattle.flow_state.proofs.Walks.{version_found, version_more}
use Rattle.flow_state.proofs.Firsts.{version_past}
use Rattle.flow_state.proofs.seating.has_version.Goals as goal

pub returns-then-tenant-version : goal.returns-then-tenant-version
returns-then-tenant-version c = version_found c.args.live.now c.args.version c.loop-tenant.tenant-index _ (omega arith) c.loop-tenant.invariant c.if-tenant-version.true

pub loop-tenant-preserved : goal.loop-tenant-preserved
loop-tenant-preserved c = version_more c.args.live.now c.args.version c.loop-tenant.tenant-index _ (omega arith) c.loop-tenant.invariant c.if-tenant-version.false

pub returns-then-tenant-version-2 : goal.returns-then-tenant-version-2
returns-then-tenant-version-2 c = version_past c.args.live.now c.args.version c.loop-tenant.tenant-index _ c.requires (omega arith) c.loop-tenant.invariant c.if-tenant-version-2.true
