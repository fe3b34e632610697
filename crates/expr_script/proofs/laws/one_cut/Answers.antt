use Rattle.expr_script.specs.Cut.{IsPiece}
use Rattle.expr_script.proofs.CutBounds.{one_of_all, piece_of_lies}
use Rattle.expr_script.proofs.OneCut.{one_cut}
use Rattle.expr_script.proofs.FoundCut.{pieces_are_cut}
use Rattle.expr_script.proofs.laws.one_cut.Goals as goal

pub returns-clause-cut : goal.returns-clause-cut
returns-clause-cut c = pieces_are_cut

pub returns-clause-one : goal.returns-clause-one
returns-clause-one c = one_cut

pub returns-clause-whole : goal.returns-clause-whole
returns-clause-whole c = λ text piece one. one_of_all (IsPiece text) text piece (pieces_are_cut text).pieces one

pub returns-clause-some : goal.returns-clause-some
returns-clause-some c = λ text piece one. (piece_of_lies text piece one).some

pub returns-clause-within : goal.returns-clause-within
returns-clause-within c = λ text piece one. (piece_of_lies text piece one).within
