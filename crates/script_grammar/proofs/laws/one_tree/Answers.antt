use Rattle.script_grammar.proofs.Agreement.{one_tree}
use Rattle.script_grammar.proofs.laws.one_tree.Goals as goal

pub returns : goal.returns
returns c = one_tree
