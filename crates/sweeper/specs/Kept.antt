-- What is kept under the lock.
use Rattle.std.specs.Prelude.{◌≡◌, ℕ, ◌≤◌, true, List}
use Rattle.script_tree.specs.declared.limits.TheConstants.{VERSIONS}
use Rattle.chronicle.specs.declared.entry.Entry.{Entry}
use Rattle.chronicle.specs.Entries.{events}
use Rattle.signal_graph.specs.Graph.{Graph, IsGraph}
use Rattle.flow_model.specs.Machine.State.{opening}
use Rattle.flow_model.specs.Machine.Histories.{Move, state, is_history}
use Rattle.interleave_core.specs.Whole.{Whole}
use Rattle.caller_fronts.specs.Fronts.{RestsAtEnds}
use Rattle.caller_fronts.specs.Keys.{AreKeyed}

-- The entries are a history of one caller at least, each under the key of the caller whose own move it is, and the core is in the
-- state after it. Steps were made for live calls alone: where no call lives, the last move is an end.
pub record IsKept (graph : Graph) (callers limit : ℕ) (core : Whole) (entries : List (Entry Move)) : Type 0 where
  pub is_graph : IsGraph graph
  pub some : 1 ≤ callers
  pub few : limit ≤ VERSIONS
  pub graph_is : core.graph ≡ graph
  pub state_is : core.state ≡ state graph callers limit (events entries)
  pub history : is_history graph callers limit (events entries) ≡ true
  pub keyed : AreKeyed graph (opening graph callers limit) entries
  pub rests : RestsAtEnds graph callers limit (events entries)
