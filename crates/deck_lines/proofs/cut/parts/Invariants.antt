use Rattle.deck_lines.proofs.Scanning.{Counted}
use Rattle.deck_lines.proofs.cut.parts.Given as goal

abbrev pub invariant-loop-piece : goal.invariant-loop-piece
invariant-loop-piece l = Counted l.word l.text l.pieces l.piece-index l.count
