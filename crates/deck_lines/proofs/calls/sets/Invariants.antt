use Rattle.std.proofs.Common.{length, All}
use Rattle.std.specs.Prelude.{codes}
use Rattle.expr_script.specs.Pieces.{words_among}
use Rattle.deck_lines.specs.Kept.{SetsWell}
use Rattle.deck_lines.specs.Cuts.{ArePiecesOf}
use Rattle.deck_lines.specs.Reading.{set_said}
use Rattle.deck_lines.proofs.Going.{Going}
use Rattle.deck_lines.proofs.calls.sets.Given as goal

abbrev pub invariant-loop-before : goal.invariant-loop-before
invariant-loop-before l = record { well : All SetsWell l.sets.items; whole : ArePiecesOf l.text l.rest; going : Going (codes ",") set_said (words_among l.text l.pieces) l.sets.items (words_among l.text l.rest) }

abbrev pub decreases-loop-before : goal.decreases-loop-before
decreases-loop-before l = length l.rest
