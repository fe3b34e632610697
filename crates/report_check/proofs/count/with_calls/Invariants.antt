use Rattle.std.proofs.Common.{◌≡◌, ◌+◌, ◌≤◌, drop, length}
use Rattle.call_log.specs.Made.{well_named}
use Rattle.report_check.proofs.count.with_calls.Given as goal

abbrev pub invariant-loop-call : goal.invariant-loop-call
invariant-loop-call l = (l.count ≤ l.limit) × (l.count + length (well_named l.graph (drop l.call-index l.calls)) ≡ l.fn.count + length (well_named l.graph l.calls))
