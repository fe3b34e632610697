use Rattle.report_text.proofs.PieceLaws.{decimal_is_utf8, number_not_refused, number_alone, not_so}
use Rattle.report_text.proofs.pieces.number_of.Goals as goal

pub returns-in_default-clause-none : goal.returns-in_default-clause-none
returns-in_default-clause-none c = λ n h is. c.in_default.ensures.cases.0 (decimal_is_utf8 n c.args.text.now h is)

pub returns-in_default-parse-clause-none : goal.returns-in_default-parse-clause-none
returns-in_default-parse-clause-none c = λ n h is.
    number_not_refused n c.args.text.now c.in-Ok.digits.now c.in_default-parse.field-0 h c.in-Ok.ensures.cases.0 is c.in_default-parse.ensures.value.0

pub returns-then-not-is_printed_number-clause-none : goal.returns-then-not-is_printed_number-clause-none
returns-then-not-is_printed_number-clause-none c = λ n h is.
    not_so c.is_printed_number.result c.if-not-is_printed_number.true
    (c.is_printed_number.ensures.1 (number_alone n c.in-Ok-parse.number c.args.text.now c.in-Ok.digits.now c.parse.result h c.in-Ok.ensures.cases.0 is c.parse.ensures.value.0 c.in-Ok-parse.is))
