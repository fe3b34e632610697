use Rattle.std.proofs.Common.{◌≡◌, ◌+◌, ◌≤◌, drop, min}
use Rattle.call_log.specs.Made.{count_well_named}
use Rattle.report_check.proofs.count.count_made.Given as goal

abbrev pub invariant-loop-calls : goal.invariant-loop-calls
invariant-loop-calls l = (l.count ≤ l.limit) × (min l.limit (l.count + count_well_named l.graph (drop l.calls-index l.scripts)) ≡ min l.limit (count_well_named l.graph l.scripts))
