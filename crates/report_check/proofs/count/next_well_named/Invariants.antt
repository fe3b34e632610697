use Rattle.std.proofs.Common.{◌≡◌, drop}
use Rattle.call_log.specs.Made.{well_named}
use Rattle.report_check.proofs.count.next_well_named.Given as goal

abbrev pub invariant-loop-at : goal.invariant-loop-at
invariant-loop-at l = well_named l.graph (drop l.at l.calls) ≡ well_named l.graph (drop l.from l.calls)
