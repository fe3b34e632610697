use Rattle.std.proofs.Common.{◌≡◌, take, length}
use Rattle.flow_state.proofs.job_room.JobRoom.fill.Given as goal

abbrev pub invariant-loop-place : goal.invariant-loop-place
invariant-loop-place l = (take l.place l.self.pairs ≡ take l.place l.gathered) × (length l.self.pairs ≡ 68)
