use Rattle.std.proofs.Common.{◌≡◌, ◌++◌, drop}
use Rattle.std.specs.List.{zip}
use Rattle.report_text.specs.Printed.{AreLooks}
use Rattle.report_text.specs.Report.{more_looks}
use Rattle.report_text.proofs.lines.print_more_looks.Given as goal

-- what is still to be printed comes behind what was printed, and if the former are looks, all are
abbrev pub invariant-loop-index : goal.invariant-loop-index
invariant-loop-index l =
    (l.out ++ more_looks (zip (drop l.index l.names) (drop l.index l.values)) ≡ l.initial.out ++ more_looks (zip l.names l.values))
    × (AreLooks (zip (drop l.index l.names) (drop l.index l.values)) → AreLooks (zip l.names l.values))
