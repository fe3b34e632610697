use Rattle.framesweep_cli.proofs.Completing.{is_refused, is_not_one, is_done}
use Rattle.framesweep_cli.proofs.laws.words_decide.Goals as goal

pub returns-clause-refused : goal.returns-clause-refused
returns-clause-refused c = is_refused

pub returns-clause-asked : goal.returns-clause-asked
returns-clause-asked c = is_not_one

pub returns-clause-done : goal.returns-clause-done
returns-clause-done c = is_done c.words_ask_for_one_command.ensures
