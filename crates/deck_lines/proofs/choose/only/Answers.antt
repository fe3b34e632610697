use Rattle.std.proofs.Common.{[], ◌∷◌}
use Rattle.std.specs.Prelude.{None}
use Rattle.expr_script.specs.Pieces.{words_among}
use Rattle.deck_lines.proofs.Choosing.{only_added}
use Rattle.deck_lines.proofs.choose.only.Goals as goal

pub returns-in-Ok-clause-read : goal.returns-in-Ok-clause-read
returns-in-Ok-clause-read c = λ words e.
    only_added c.args.name words (words_among c.args.text.now c.args.pieces.now) c.args.selectors c.add.new.self c.judge.result e c.requires.none c.in-Ok.ensures (λ form g. c.judge.ensures.read (form ∷ []) None g tt)
