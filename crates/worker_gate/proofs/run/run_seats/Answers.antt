use denote.Param.Send.{sendable}
use Rattle.std.proofs.Crossing.{crosses, sync}
use Rattle.worker_gate.proofs.Crossing.{sweeper_sync, calls_sync}
use Rattle.worker_gate.proofs.run.run_seats.Goals as goal

pub for_each_mut-requires-sync-F : goal.for_each_mut-requires-sync-F
for_each_mut-requires-sync-F g c κs within = search (sweeper_sync, calls_sync, sync, sendable, crosses) depth 40
