use Rattle.std.proofs.Common.{◌≡◌, ◌++◌, ◌+◌, ◌≤◌, length}
use Rattle.std.specs.List.{flat_map}
use Rattle.report_text.specs.Printed.{AreLines}
use Rattle.report_text.specs.Report.{call_line}
use Rattle.report_text.proofs.reading.read_calls.Given as goal

-- the lines so far, and what is left behind them
abbrev pub invariant-loop-alloc : goal.invariant-loop-alloc
invariant-loop-alloc l =
    (l.text ≡ flat_map call_line l.lines.items ++ l.rest)
    × AreLines l.lines.items
    × (length l.lines.items + length l.rest ≤ length l.text)

abbrev pub decreases-loop-alloc : goal.decreases-loop-alloc
decreases-loop-alloc l = length l.rest
