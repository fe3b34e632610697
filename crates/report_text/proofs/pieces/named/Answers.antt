use Rattle.std.proofs.Common.{◌++◌, sym, ◌∙◌, codes}
use Rattle.std.proofs.lemmas.List.{append_cancel_left}
use Rattle.script_tree.specs.Printed.{value_text}
use Rattle.report_text.proofs.Unique.{behind_name}
use Rattle.report_text.proofs.pieces.named.Goals as goal

pub returns-in_default-behind-clause-none : goal.returns-in_default-behind-clause-none
returns-in_default-behind-clause-none c = λ name value rest hn hv ends e.
    let read = c.in-Some.ensures.some in
    c.in_default-behind.ensures (value_text value ++ rest) (behind_name c.args.text.now c.in-Some.name c.in-Some.rest.now name value rest read.0 read.1 read.2 hn e)

pub returns-in_default-value-clause-none : goal.returns-in_default-value-clause-none
returns-in_default-value-clause-none c = λ name value rest hn hv ends e.
    let read = c.in-Some.ensures.some in
    let behind = behind_name c.args.text.now c.in-Some.name c.in-Some.rest.now name value rest read.0 read.1 read.2 hn e in
    c.in_default-value.ensures.none value rest hv ends
    (append_cancel_left (codes "=") c.in-Some-behind.rest.now (value_text value ++ rest) (sym c.in-Some-behind.ensures ∙ behind))
