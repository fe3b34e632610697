use Rattle.expr_script.specs.Pieces.{words_among}
use Rattle.deck_lines.proofs.Declaring.{fold_says}
use Rattle.deck_lines.proofs.declarations.fold_from.Goals as goal

pub returns-in-Ok-clause-read : goal.returns-in-Ok-clause-read
returns-in-Ok-clause-read c = λ words e. fold_says c.args.name words (words_among c.args.text.now c.args.pieces.now) c.args.start c.in-Ok.script e c.in-Ok.ensures.read
