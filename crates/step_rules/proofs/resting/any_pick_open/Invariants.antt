use Rattle.std.proofs.Common.{◌≡◌, drop}
use Rattle.signal_graph.specs.Values.{nodes_in}
use Rattle.step_rules.specs.Rests.{any_open}
use Rattle.step_rules.proofs.resting.any_pick_open.Given as goal

abbrev pub invariant-loop-index : goal.invariant-loop-index
invariant-loop-index l = any_open l.book l.version (nodes_in (drop l.index l.picks)) ≡ any_open l.book l.version (nodes_in l.picks)
