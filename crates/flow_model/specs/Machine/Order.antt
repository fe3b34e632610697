-- The order of calls, to be read.
use Rattle.std.specs.Prelude.{◌≡◌, ℕ, true, false}
use Rattle.order_graph.specs.Order.{Precedes}
use Rattle.flow_model.specs.Machine.State.{Core, live}

-- Call u is before call v: a chain of recorded pairs leads from one to the other, or u has ended and v is live.
pub data IsBefore (s : Core) : ℕ → ℕ → Type 0 where
  by_pairs : {u v : ℕ} → Precedes s.pairs u v → IsBefore s u v
  has_ended : {u v : ℕ} → live s u ≡ false → live s v ≡ true → IsBefore s u v
