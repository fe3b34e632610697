use Rattle.std.proofs.Common.{◌++◌, sym, ◌∙◌}
use Rattle.std.specs.Prelude.{decimal}
use Rattle.std.proofs.lemmas.List.{append_cancel_left}
use Rattle.report_text.proofs.Unique.{none_weaker}
use Rattle.report_text.proofs.pieces.count.Goals as goal

pub returns-in-Some-clause-none : goal.returns-in-Some-clause-none
returns-in-Some-clause-none c =
    none_weaker c.number.result _ _
    (λ none n rest h ends e. none n rest h ends (append_cancel_left c.args.label.now c.in-Some.rest.now (decimal n ++ rest) (sym c.in-Some.ensures ∙ e)))
    c.number.ensures.none
