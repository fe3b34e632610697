use Rattle.deck_lines.proofs.Scanning.{NotYet}
use Rattle.deck_lines.proofs.cut.cut.Given as goal

abbrev pub invariant-loop-at : goal.invariant-loop-at
invariant-loop-at l = NotYet l.word l.text l.pieces l.at
