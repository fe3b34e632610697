use Rattle.std.proofs.Common.{◌≡◌, arith}
use Rattle.std.proofs.lemmas.Bool.Decides.{nat_tests}
use Rattle.expr_script.specs.Pieces.{words_among}
use Rattle.deck_lines.proofs.Choosing.{alone_before, one_selector, no_body_read}
use Rattle.deck_lines.proofs.choose.last.Goals as goal

pub returns-then-alone-2-clause-read : goal.returns-then-alone-2-clause-read
returns-then-alone-2-clause-read c = λ words done g p.
    let rest = words_among c.args.text.now c.args.pieces.now in
    let e = c.if-alone-2.true in
    let alone : c.args.selectors.count ≡ 0 = grind (arith, nat_tests, e) in
    c.only.ensures.read words (one_selector c.args.name words rest (alone_before done c.args.selectors words rest g alone p) c.in-Some.ensures.some)

pub returns-clause-read : goal.returns-clause-read
returns-clause-read c = λ words done g p.
    let e = c.if-alone-2.false in
    let some : c.args.selectors.count ≡ 0 → ⊥ = λ z. grind (arith, nat_tests, e, z) in
    no_body_read c.args.name words (words_among c.args.text.now c.args.pieces.now) done c.args.selectors g some p c.in-Some.ensures.some
