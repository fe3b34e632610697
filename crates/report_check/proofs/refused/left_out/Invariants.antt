use Rattle.std.proofs.Common.{◌≡◌, ◌++◌, ◌+◌, List, drop}
use Rattle.signal_graph.specs.declared.log.Logged.{Logged}
use Rattle.call_log.specs.LeftOut.{left_out_of, left_out}
use Rattle.report_check.specs.Standing.{AreSeats}
use Rattle.report_check.proofs.refused.left_out.Given as goal

abbrev pub invariant-loop-index : goal.invariant-loop-index
invariant-loop-index l = (log : List Logged) → AreSeats l.graph l.scripts log l.seats → l.refused ++ left_out_of l.graph l.limit log (l.index + 1) (drop l.index l.scripts) ≡ left_out l.graph l.limit log l.scripts
