use Rattle.std.proofs.Common.{◌≡◌, ◌+◌, drop}
use Rattle.node_versions.proofs.FirstFrame.{frames}
use Rattle.node_versions.proofs.list.frames_from.Given as goal

abbrev pub invariant-loop-place : goal.invariant-loop-place
invariant-loop-place l = frames l.entries ≡ l.place + frames (drop l.place l.entries)
