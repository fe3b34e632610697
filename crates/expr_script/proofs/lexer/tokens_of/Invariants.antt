use Rattle.std.proofs.Common.{◌≡◌, take}
use Rattle.expr_script.specs.Pieces.{words_among}
use Rattle.expr_script.specs.Tokens.{tokens_among}
use Rattle.expr_script.proofs.lexer.tokens_of.Given as goal

abbrev pub invariant-loop-piece : goal.invariant-loop-piece
invariant-loop-piece l = l.tokens.items ≡ tokens_among l.atoms l.names (words_among l.text (take l.piece-index l.pieces))
