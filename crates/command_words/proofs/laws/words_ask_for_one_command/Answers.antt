use Rattle.command_words.proofs.Lines.{asked_once}
use Rattle.command_words.proofs.laws.words_ask_for_one_command.Goals as goal

pub returns : goal.returns
returns c = asked_once
