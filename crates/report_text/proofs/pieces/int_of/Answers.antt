use Rattle.std.proofs.Common.{rules, w64, FitsSigned}
use Rattle.std.proofs.lemmas.Int.{to_z-of_z}
use Rattle.report_text.proofs.PieceLaws.{int_is_utf8, int_not_refused, int_alone, not_so}
use Rattle.report_text.proofs.pieces.int_of.Goals as goal

pub returns-in_default-clause-none : goal.returns-in_default-clause-none
returns-in_default-clause-none c = λ n h is. c.in_default.ensures.cases.0 (int_is_utf8 n c.args.text.now h is)

pub returns-in_default-parse-clause-none : goal.returns-in_default-parse-clause-none
returns-in_default-parse-clause-none c = λ n h is.
    int_not_refused n c.args.text.now c.in-Ok.digits.now c.in_default-parse.field-0 h c.in-Ok.ensures.cases.0 is c.in_default-parse.ensures.value.0

pub returns-then-not-is_printed_int-clause-none : goal.returns-then-not-is_printed_int-clause-none
returns-then-not-is_printed_int-clause-none c = λ n h is.
    let fits : FitsSigned w64 c.in-Ok-parse.number = search rules in
    not_so c.is_printed_int.result c.if-not-is_printed_int.true
    (c.is_printed_int.ensures.1 (rw (to_z-of_z w64 c.in-Ok-parse.number fits)
    (int_alone n c.in-Ok-parse.number c.args.text.now c.in-Ok.digits.now c.parse.result h c.in-Ok.ensures.cases.0 is c.parse.ensures.value.0 c.in-Ok-parse.is)))
