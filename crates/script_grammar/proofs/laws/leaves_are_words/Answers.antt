use Rattle.script_grammar.proofs.Leaves.{leaves_are_words}
use Rattle.script_grammar.proofs.laws.leaves_are_words.Goals as goal

pub returns : goal.returns
returns c = leaves_are_words
