use Rattle.std.proofs.Common.{◌≡◌, map, take, length}
use Rattle.signal_graph.specs.Values.{at}
use Rattle.signal_graph.proofs.evaluate.gather.Given as goal

abbrev pub invariant-loop-place : goal.invariant-loop-place
invariant-loop-place o l = (take l.place l.gathered ≡ map (at l.values) (take l.place l.inputs)) × (length l.gathered ≡ o.row.N)
