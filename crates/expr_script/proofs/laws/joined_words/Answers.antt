use Rattle.std.proofs.Common.{List, ℕ, ◌<◌, length}
use Rattle.std.proofs.lemmas.List.Elements.{All-from_recursion}
use Rattle.expr_script.specs.Pieces.{words}
use Rattle.expr_script.proofs.CutBack.{joined_back, joined_short, words_some}
use Rattle.expr_script.proofs.laws.joined_words.Goals as goal

pub returns-clause-back : goal.returns-clause-back
returns-clause-back c = joined_back

pub returns-clause-some : goal.returns-clause-some
returns-clause-some c = λ text. All-from_recursion (λ (word : List ℕ). 0 < length word) (words text) (words_some text)

pub returns-clause-short : goal.returns-clause-short
returns-clause-short c = joined_short
