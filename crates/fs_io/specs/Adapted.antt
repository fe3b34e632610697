-- Std's readers and writers as sources and sinks, as contracts see them.
use Rattle.std.specs.Prelude.{ℕ, Bool}

-- a reader, and how many faults there were
pub record Reading (R : Type 0) : Type 0 where
  pub reader : R
  pub faults : ℕ

-- a writer, how many faults there were, and whether it was flushed since the last write
pub record Writing (W : Type 0) : Type 0 where
  pub writer : W
  pub faults : ℕ
  pub clean : Bool
