use Rattle.std.proofs.Common.{refl, sym, subst}
use Rattle.std.specs.Prelude.{Option}
use Rattle.expr_script.specs.Pieces.{words_among}
use Rattle.deck_lines.specs.Forms.{PartForm}
use Rattle.deck_lines.specs.Selectors.{Adds}
use Rattle.deck_lines.proofs.Gathering.{part_found}
use Rattle.deck_lines.proofs.selectors.Selectors.add.Goals as goal

pub returns-in-Ok : goal.returns-in-Ok
returns-in-Ok c =
    let first = words_among c.args.text.now c.in-Some.before.now in
    subst (λ (f : Option PartForm). Adds f c.args.self.now c.add_read.new.self c.add_read.result)
    (sym (part_found (words_among c.args.text.now c.args.pieces.now) first (words_among c.args.text.now c.in-Some.behind.now) c.in-Ok.candidates c.in-Some.ensures.some c.in-Some.ensures.before c.in-Some.ensures.behind c.in-Ok.ensures.read))
    (c.add_read.ensures (first, c.in-Ok.candidates) c.script.ensures.read refl)
