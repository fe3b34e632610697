-- What contracts see of a log.
use Rattle.std.specs.Prelude.{ℕ, List}
use Rattle.signal_graph.specs.declared.log.Logged.{Logged}

-- the entries, in the order of their effect, and how many more have room
pub record Record : Type 0 where
  pub entries : List Logged
  pub spare : ℕ
