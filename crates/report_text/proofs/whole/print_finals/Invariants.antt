use Rattle.std.proofs.Common.{◌≡◌, ◌++◌, drop}
use Rattle.std.specs.List.{flat_map, zip}
use Rattle.report_text.specs.Printed.{AreLooks}
use Rattle.report_text.specs.Report.{final_line}
use Rattle.report_text.proofs.whole.print_finals.Given as goal

-- what is still to be printed comes behind what was printed, and if the former are looks, all are
abbrev pub invariant-loop-node : goal.invariant-loop-node
invariant-loop-node l =
    (l.out ++ flat_map final_line (zip (drop l.node l.graph.names) (drop l.node l.finals)) ≡ l.initial.out ++ flat_map final_line (zip l.graph.names l.finals))
    × (AreLooks (zip (drop l.node l.graph.names) (drop l.node l.finals)) → AreLooks (zip l.graph.names l.finals))
