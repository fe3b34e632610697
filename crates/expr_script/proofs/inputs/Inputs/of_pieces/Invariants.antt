use Rattle.std.proofs.Common.{take}
use Rattle.script_tree.specs.declared.limits.TheConstants.{INPUTS}
use Rattle.expr_script.specs.Inputs.{KeepsFirst}
use Rattle.expr_script.specs.Pieces.{words_among}
use Rattle.expr_script.specs.Tokens.{script_names}
use Rattle.expr_script.proofs.inputs.Inputs.of_pieces.Given as goal

abbrev pub invariant-loop-piece : goal.invariant-loop-piece
invariant-loop-piece l = KeepsFirst INPUTS l.inputs.names l.inputs.more (script_names (words_among l.text (take l.piece-index l.pieces)))
