use Rattle.std.proofs.Common.{◌≡◌, ◌++◌, drop, map}
use Rattle.std.specs.List.{flat_map}
use Rattle.report_text.specs.Printed.{AreLines}
use Rattle.report_text.specs.Report.{line_of, call_line}
use Rattle.report_text.proofs.whole.print_calls.Given as goal

-- what is still to be printed comes behind what was printed, and if the former are lines, all are
abbrev pub invariant-loop-entry : goal.invariant-loop-entry
invariant-loop-entry l =
    (l.out ++ flat_map call_line (map line_of (drop l.entry-index l.log)) ≡ l.initial.out ++ flat_map call_line (map line_of l.log))
    × (AreLines (map line_of (drop l.entry-index l.log)) → AreLines (map line_of l.log))
