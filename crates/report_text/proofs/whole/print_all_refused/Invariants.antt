use Rattle.std.proofs.Common.{◌≡◌, ◌++◌, drop}
use Rattle.std.specs.List.{flat_map}
use Rattle.report_text.specs.Printed.{AreRefusals}
use Rattle.report_text.specs.Report.{refused_line}
use Rattle.report_text.proofs.whole.print_all_refused.Given as goal

-- what is still to be printed comes behind what was printed, and if the former are refusals, all are
abbrev pub invariant-loop-one : goal.invariant-loop-one
invariant-loop-one l =
    (l.out ++ flat_map refused_line (drop l.one-index l.refused) ≡ l.initial.out ++ flat_map refused_line l.refused)
    × (AreRefusals (drop l.one-index l.refused) → AreRefusals l.refused)
