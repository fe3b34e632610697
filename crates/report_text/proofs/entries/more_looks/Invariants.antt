use Rattle.std.proofs.Common.{◌≡◌, ◌++◌, ◌<◌, length}
use Rattle.std.specs.List.{zip}
use Rattle.report_text.specs.Report.{looks_text}
use Rattle.report_text.specs.Printed.{AreLooks}
use Rattle.report_text.proofs.LooksLaws.{StaysWithin}
use Rattle.report_text.proofs.entries.more_looks.Given as goal

-- the looks so far, and what is left behind them
abbrev pub invariant-loop-rest : goal.invariant-loop-rest
invariant-loop-rest l =
    (looks_text (zip l.initial.looks.names l.initial.looks.values) ++ l.text ≡ looks_text (zip l.looks.names l.looks.values) ++ l.rest)
    × (0 < length l.looks.names)
    × (length l.looks.values ≡ length l.looks.names)
    × (AreLooks (zip l.initial.looks.names l.initial.looks.values) → AreLooks (zip l.looks.names l.looks.values))
    × StaysWithin l.text l.rest

abbrev pub decreases-loop-rest : goal.decreases-loop-rest
decreases-loop-rest l = length l.rest
