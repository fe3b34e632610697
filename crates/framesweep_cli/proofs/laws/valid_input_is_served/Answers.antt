use Rattle.framesweep_cli.proofs.Completing.{ends_served, is_served}
use Rattle.framesweep_cli.proofs.laws.valid_input_is_served.Goals as goal

pub returns-clause-alone : goal.returns-clause-alone
returns-clause-alone c = ends_served (c.one_answer.ensures.apart, c.one_answer.ensures.deck, c.reports_are_told_apart.ensures.whole)

pub returns-clause-asked : goal.returns-clause-asked
returns-clause-asked c = is_served (c.one_answer.ensures.apart, c.one_answer.ensures.deck, c.reports_are_told_apart.ensures.whole)
    c.words_ask_for_one_command.ensures
