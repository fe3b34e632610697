use Rattle.framesweep_cli.proofs.Completing.{ends_denied, is_denied, ends_not_two, is_not_two}
use Rattle.framesweep_cli.proofs.laws.invalid_input_is_refused.Goals as goal

pub returns-clause-alone : goal.returns-clause-alone
returns-clause-alone c = ends_denied (c.one_answer.ensures.apart, c.one_answer.ensures.deck, c.reports_are_told_apart.ensures.whole)

pub returns-clause-asked : goal.returns-clause-asked
returns-clause-asked c = is_denied (c.one_answer.ensures.apart, c.one_answer.ensures.deck, c.reports_are_told_apart.ensures.whole)
    c.words_ask_for_one_command.ensures

pub returns-clause-valid_alone : goal.returns-clause-valid_alone
returns-clause-valid_alone c = ends_not_two (c.one_answer.ensures.apart, c.one_answer.ensures.deck, c.reports_are_told_apart.ensures.whole)

pub returns-clause-valid : goal.returns-clause-valid
returns-clause-valid c = is_not_two (c.one_answer.ensures.apart, c.one_answer.ensures.deck, c.reports_are_told_apart.ensures.whole)
    c.words_ask_for_one_command.ensures
