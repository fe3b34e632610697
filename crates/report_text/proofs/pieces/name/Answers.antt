use Rattle.report_text.proofs.Unique.{not_name}
use Rattle.report_text.proofs.pieces.name.Goals as goal

pub returns-in-None-clause-none : goal.returns-in-None-clause-none
returns-in-None-clause-none c = not_name c.args.text.now c.piece.result.0.now c.piece.result.1.now c.piece.ensures.whole c.piece.ensures.inner c.piece.ensures.ends c.in-None.ensures.none
