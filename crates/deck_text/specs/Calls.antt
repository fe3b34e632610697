-- The threads that a deck keeps.
use Rattle.std.specs.Prelude.{◌≤◌, ◌<◌, ◌^◌, List, length}
use Rattle.std.specs.List.{All}
use Rattle.script_tree.specs.declared.limits.TheConstants.{THREADS}
use Rattle.signal_graph.specs.declared.call.Call.{Call}
use Rattle.deck_lines.specs.Kept.{IsCall}

-- a thread of a deck
pub record IsThread (calls : List Call) : Type 0 where
  pub each : All IsCall calls
  pub counted : length calls < 2 ^ 32

-- the threads of a deck
pub record AreThreads (threads : List (List Call)) : Type 0 where
  pub some : 1 ≤ length threads
  pub few : length threads ≤ THREADS
  pub each : All IsThread threads
