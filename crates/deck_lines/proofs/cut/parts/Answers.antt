use Rattle.std.proofs.Common.{◌+◌, sym, ◌∙◌, refl, subst}
use Rattle.deck_lines.proofs.Scanning.{Counted, counts_here, counts_none}
use Rattle.deck_lines.proofs.cut.parts.Goals as goal
use Rattle.deck_lines.proofs.cut.parts.Goals.{then-is_word, else-is_word}

pub loop-piece-preserved : goal.loop-piece-preserved
loop-piece-preserved c =
    let word = c.args.word.now in
    let text = c.args.text.now in
    let pieces = c.args.pieces.now in
    let l = c.loop-piece in
    elim c.if-is_word.branch [
      | then-is_word w ↦ subst (Counted word text pieces (l.piece-index + 1)) (sym w.count-is) (counts_here word text pieces l.piece-index l.count _ _ c.loop-piece-test.true refl (sym c.is_word.ensures ∙ w.if-is_word.true) l.invariant)
      | else-is_word w ↦ subst (Counted word text pieces (l.piece-index + 1)) (sym w.count-is) (counts_none word text pieces l.piece-index l.count _ _ c.loop-piece-test.true refl (sym c.is_word.ensures ∙ w.if-is_word.false) l.invariant)
    ]
