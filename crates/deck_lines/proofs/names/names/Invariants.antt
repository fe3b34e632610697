use Rattle.std.proofs.Common.{length}
use Rattle.std.specs.Prelude.{codes}
use Rattle.expr_script.specs.Pieces.{words_among}
use Rattle.deck_lines.specs.Cuts.{ArePiecesOf}
use Rattle.deck_lines.specs.Reading.{name_of}
use Rattle.deck_lines.proofs.Going.{Going}
use Rattle.deck_lines.proofs.names.names.Given as goal

abbrev pub invariant-loop-before : goal.invariant-loop-before
invariant-loop-before l = record { whole : ArePiecesOf l.text l.rest; going : Going (codes ",") name_of (words_among l.text l.pieces) l.names.items (words_among l.text l.rest) }

abbrev pub decreases-loop-before : goal.decreases-loop-before
decreases-loop-before l = length l.rest
