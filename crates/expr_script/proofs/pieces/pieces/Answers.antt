use Rattle.std.proofs.Common.{◌≡◌, List, length, sym, subst}
use Rattle.std.proofs.lemmas.List.Elements.{All-same}
use Rattle.expr_script.specs.Pieces.{pieces, IsPieceOf}
use Rattle.expr_script.proofs.CutBounds.{Lies, pieces_lie, pieces_of_it, all_found}
use Rattle.expr_script.specs.declared.pieces.Piece.{Piece}
use Rattle.expr_script.specs.Cut.{IsCut}
use Rattle.expr_script.proofs.FoundCut.{pieces_are_cut}
use Rattle.expr_script.proofs.pieces.pieces.Goals as goal

found_all : (c : goal.After-loop-at) → c.loop-at.found.items ≡ pieces c.args.text.now
found_all c = all_found c.loop-at.found.items (pieces c.args.text.now) c.args.text.now c.loop-at.skip c.loop-at.at c.loop-at-test.false c.loop-at.invariant

pub returns-clause-whole : goal.returns-clause-whole
returns-clause-whole c = All-same (IsPieceOf c.args.text.now) c.loop-at.found.items (pieces c.args.text.now) (found_all c) (pieces_of_it c.args.text.now)

pub returns-clause-within : goal.returns-clause-within
returns-clause-within c = λ k d h. (All-same (Lies (length c.args.text.now)) c.loop-at.found.items (pieces c.args.text.now) (found_all c) (pieces_lie c.args.text.now) k d h).within

pub returns-clause-some : goal.returns-clause-some
returns-clause-some c = λ k d h. (All-same (Lies (length c.args.text.now)) c.loop-at.found.items (pieces c.args.text.now) (found_all c) (pieces_lie c.args.text.now) k d h).some

pub returns-clause-cut : goal.returns-clause-cut
returns-clause-cut c = subst (λ (found : List Piece). IsCut c.args.text.now found) (sym (found_all c)) (pieces_are_cut c.args.text.now)
