use Rattle.report_text.proofs.Unique.{not_fault}
use Rattle.report_text.proofs.pieces.fault.Goals as goal

pub returns-in-None-clause-none : goal.returns-in-None-clause-none
returns-in-None-clause-none c = not_fault c.args.text.now c.piece.result.0.now c.piece.result.1.now c.piece.ensures.whole c.piece.ensures.inner c.piece.ensures.ends c.in-None.ensures.none
