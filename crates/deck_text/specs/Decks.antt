-- A deck as contracts see it.
use Rattle.std.specs.Prelude.{List}
use Rattle.signal_graph.specs.declared.call.Call.{Call}
use Rattle.signal_graph.specs.Graph.{Graph}

-- a graph and one list of calls per thread
pub record Decked : Type 0 where
  pub graph : Graph
  pub scripts : List (List Call)
