use Rattle.script_grammar.proofs.Depths.{one_nesting}
use Rattle.script_grammar.proofs.laws.one_nesting.Goals as goal

pub returns : goal.returns
returns c = λ w v text a b j g k p q h. one_nesting w v g k text a b p q j h
