use Rattle.std.proofs.lemmas.List.Folds.{length-prefix_len}
use Rattle.report_text.specs.Pieces.{is_inner}
use Rattle.report_text.proofs.PieceLaws.{ends_behind, inner_taken}
use Rattle.report_text.proofs.pieces.piece.Goals as goal

pub returns-clause-ends : goal.returns-clause-ends
returns-clause-ends c =
    rw (c.split_at.ensures.back, c.inner_len.ensures.value, length-prefix_len is_inner c.args.text.now) (ends_behind c.args.text.now)

pub returns-clause-inner : goal.returns-clause-inner
returns-clause-inner c =
    rw (c.split_at.ensures.front, c.inner_len.ensures.value, length-prefix_len is_inner c.args.text.now) (inner_taken c.args.text.now)
