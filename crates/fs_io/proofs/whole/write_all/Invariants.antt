use Rattle.std.proofs.Common.{◌≡◌, ◌≤◌, List, ℕ, ◌++◌, length}
use Rattle.fs_io.specs.Bytes.{Adds}
use Rattle.fs_io.proofs.whole.write_all.Given as goal

-- the bytes that were taken are what stands before the rest
abbrev pub invariant-loop-rest : goal.invariant-loop-rest
invariant-loop-rest g l = record {
  taken : (x : List ℕ) × (l.bytes ≡ x ++ l.rest) × Adds (g.O.Sink.state l.fn.sink).held (g.O.Sink.state l.sink).held x;
  count : (g.O.Sink.state l.fn.sink).faults ≤ (g.O.Sink.state l.sink).faults;
}

abbrev pub decreases-loop-rest : goal.decreases-loop-rest
decreases-loop-rest g l = length l.rest
