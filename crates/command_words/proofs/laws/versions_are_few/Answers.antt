use Rattle.command_words.proofs.Lines.{asked_few}
use Rattle.command_words.proofs.laws.versions_are_few.Goals as goal

pub returns : goal.returns
returns c = asked_few
