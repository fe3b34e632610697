use Rattle.std.proofs.Common.{◌≡◌, ◌+◌, ◌-◌, ◌≤◌, length, vec_len}
use Rattle.std.specs.Io.KnownBytes.{Consumes}
use Rattle.fs_io.proofs.whole.read_all.Given as goal

-- the text is what the source lost so far, by at least one byte a read
abbrev pub invariant-loop-text : goal.invariant-loop-text
invariant-loop-text g l = record {
  came : Consumes (g.S.Source.state l.fn.source).left (g.S.Source.state l.source).left l.text;
  few : length l.text ≤ l.most + 1;
  count : (g.S.Source.state l.fn.source).faults ≤ (g.S.Source.state l.source).faults;
  reads : g.S.Source.reads l.source ≤ g.S.Source.reads l.fn.source + length l.text;
  room : vec_len l.piece ≡ 65536;
}

abbrev pub decreases-loop-text : goal.decreases-loop-text
decreases-loop-text g l = (l.most + 1) - length l.text
