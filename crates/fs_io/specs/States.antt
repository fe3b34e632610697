-- What contracts see of a source and a sink.
use Rattle.std.specs.Prelude.{ℕ, Bool, List, Option}

-- a source at one moment: the bytes that are left, as far as it tells them, and how many faults there were, a count that never falls
pub record SourceState : Type 0 where
  pub left : Option (List ℕ)
  pub faults : ℕ

-- a sink at one moment: the bytes that it holds, as far as it tells them, how many faults there were, a count that never falls, and
-- whether it was flushed since the last write
pub record SinkState : Type 0 where
  pub held : Option (List ℕ)
  pub faults : ℕ
  pub clean : Bool
