-- Which finished runs are runs of the callers' scripts.
use Rattle.std.specs.Prelude.{◌≡◌, ℕ, ◌+◌, ◌<◌, ◌≤◌, ◌==◌, List, length, All, count_by}
use Rattle.std.specs.List.Sorted.{IsStrictlyIncreasing}
use Rattle.signal_graph.specs.declared.call.Call.{Call}
use Rattle.signal_graph.specs.declared.log.Logged.{Logged}
use Rattle.signal_graph.specs.declared.log.Refused.{Refused}
use Rattle.signal_graph.specs.Graph.{Graph}
use Rattle.call_log.specs.Made.{entries_of, calls_in, versions_in, well_named, count_well_named, script_of, IsPrefix}
use Rattle.call_log.specs.LeftOut.{left_out}

-- an entry is of one of so many callers
abbrev pub IsOfCaller : ℕ → Logged → Type 0
IsOfCaller callers entry = (1 ≤ entry.caller) × (entry.caller ≤ callers)

-- the versions of a log are the numbers from 1 to its length, each once, and rise along each caller's calls
pub record AreVersions (log : List Logged) : Type 0 where
  pub each_once : (v : ℕ) → 1 ≤ v → v ≤ length log → count_by (λ entry. entry.version == v) log ≡ 1
  pub rising : (caller : ℕ) → IsStrictlyIncreasing (versions_in (entries_of caller log))

-- a log and the calls that it has not are one merge of all scripts: each caller's calls in the log are the first of its
-- well-named calls, in their order; the log has all well-named calls, or as many as there are versions; and the rest
-- was refused
pub record Merge (graph : Graph) (scripts : List (List Call)) (limit : ℕ) (log : List Logged) (refused : List Refused) : Type 0 where
  pub callers : All (IsOfCaller (length scripts)) log
  pub in_order : (k : ℕ) → k < length scripts → IsPrefix (calls_in (entries_of (k + 1) log)) (well_named graph (script_of scripts k))
  pub all_made : count_well_named graph scripts ≤ limit → length log ≡ count_well_named graph scripts
  pub used_up : limit < count_well_named graph scripts → length log ≡ limit
  pub versions : AreVersions log
  pub rest : refused ≡ left_out graph limit log scripts
