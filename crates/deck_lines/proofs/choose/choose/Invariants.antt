use Rattle.std.proofs.Common.{length}
use Rattle.expr_script.specs.Pieces.{words_among}
use Rattle.deck_lines.specs.Cuts.{ArePiecesOf}
use Rattle.deck_lines.proofs.Choosing.{Gathered}
use Rattle.deck_lines.proofs.choose.choose.Given as goal

abbrev pub invariant-loop-before : goal.invariant-loop-before
invariant-loop-before l = record { whole : ArePiecesOf l.text l.rest; gathered : Gathered (words_among l.text l.pieces) l.selectors (words_among l.text l.rest) }

abbrev pub decreases-loop-before : goal.decreases-loop-before
decreases-loop-before l = length l.rest
