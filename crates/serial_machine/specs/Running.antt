-- A run in its middle.
use Rattle.std.specs.Prelude.{ℕ, ◌≤◌, length}
use Rattle.script_tree.specs.declared.limits.TheConstants.{SETS, LOOKS}
use Rattle.signal_graph.specs.declared.call.Call.{Call}
use Rattle.signal_graph.specs.Graph.{Graph}
use Rattle.signal_graph.specs.Machine.{sets_of, looks_of}
use Rattle.serial_machine.specs.Progress.{Progress}

-- the graph, the limit of versions, how many entries the log has room for, and what is made and refused so far
pub record Running : Type 0 where
  pub graph : Graph
  pub limit : ℕ
  pub capacity : ℕ
  pub progress : Progress

-- a call has no more sets and looks than a call may have
pub record IsWithinLimits (call : Call) : Type 0 where
  pub sets : length (sets_of call) ≤ SETS
  pub looks : length (looks_of call) ≤ LOOKS
