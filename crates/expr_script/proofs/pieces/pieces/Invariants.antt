use Rattle.std.proofs.Common.{◌≡◌, ◌++◌, drop}
use Rattle.expr_script.specs.Pieces.{pieces_from, pieces}
use Rattle.expr_script.proofs.pieces.pieces.Given as goal

abbrev pub invariant-loop-at : goal.invariant-loop-at
invariant-loop-at l = l.found.items ++ pieces_from l.skip l.at (drop l.at l.text) ≡ pieces l.text
