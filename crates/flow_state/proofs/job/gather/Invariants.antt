use Rattle.std.proofs.Common.{◌≡◌, map, take, length}
use Rattle.flow_state.specs.Jobs.{read_from}
use Rattle.flow_state.proofs.job.gather.Given as goal

abbrev pub invariant-loop-place : goal.invariant-loop-place
invariant-loop-place o l = (take l.place l.values ≡ map (read_from l.gathered) (take l.place l.inputs)) × (length l.values ≡ o.row.N)
