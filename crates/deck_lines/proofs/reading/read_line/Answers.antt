use Rattle.std.proofs.Common.{List, ℕ, ◌≡◌, ap, ◌∙◌, subst}
use Rattle.std.specs.Prelude.{IfOk, IfErr}
use Rattle.expr_script.specs.Pieces.{words_among, words}
use Rattle.deck_lines.specs.Lines.{IsLine, IsLineFault}
use Rattle.deck_lines.specs.Texts.{line_words}
use Rattle.deck_lines.proofs.Finding.{is_line, is_fault}
use Rattle.deck_lines.proofs.reading.read_line.Goals as goal

pub returns-clause-ok : goal.returns-clause-ok
returns-clause-ok c =
    let text = c.said-text.result.now in
    let same : words_among text c.deref.result.now ≡ line_words c.args.line.now = ap (words_among text) (c.deref.ensures.value ∙ c.in-Ok.ensures.found) ∙ ap words c.said-text.ensures.value in
    subst (λ (ws : List (List ℕ)). IfOk c.read_pieces.result (IsLine ws)) same (is_line (words_among text c.deref.result.now) c.read_pieces.result c.read_pieces.ensures.read)

pub returns-clause-err : goal.returns-clause-err
returns-clause-err c =
    let text = c.said-text.result.now in
    let same : words_among text c.deref.result.now ≡ line_words c.args.line.now = ap (words_among text) (c.deref.ensures.value ∙ c.in-Ok.ensures.found) ∙ ap words c.said-text.ensures.value in
    subst (λ (ws : List (List ℕ)). IfErr c.read_pieces.result (IsLineFault ws)) same (is_fault (words_among text c.deref.result.now) c.read_pieces.result c.read_pieces.ensures.read)
