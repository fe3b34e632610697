-- The first line of a text.
use Rattle.std.proofs.Common.{◌≡◌, ℕ, ◌+◌, ◌<◌, Bool, true, false, List, [], ◌∷◌, length, take, drop, refl, sym, ap, ◌∙◌, arith}
use Rattle.std.specs.List.{onto_first, before_first, after_first, position_or_len}
use Rattle.script_tree.proofs.Lists.{take_next, drop_next}
use Rattle.deck_text.specs.Lines.{is_line_feed, lines}

lines_from : (b : ℕ) (text : List ℕ) (v : Bool) → is_line_feed b ≡ v → lines (b ∷ text) ≡ before_first is_line_feed (b ∷ text) ∷ lines (after_first is_line_feed (b ∷ text))
lines_from b text true e = rw e refl
lines_from b [] false e = rw e refl
lines_from b (c ∷ text) false e =
    let n = position_or_len is_line_feed (c ∷ text) in
    let first = take_next (1 + n) n b (c ∷ text) (omega arith) in
    let rest = drop_next (1 + n + 1) (n + 1) b (c ∷ text) (omega arith) in
    rw e (
    ap (onto_first b) (lines_from c text (is_line_feed c) refl)
    ∙ ap (λ line. line ∷ lines (drop (n + 1) (c ∷ text))) (sym first)
    ∙ ap (λ after. take (1 + n) (b ∷ c ∷ text) ∷ lines after) (sym rest))

-- a text with bytes has a first line, which ends before the first line feed or with the text
pub lines_first : (text : List ℕ) → 0 < length text → lines text ≡ before_first is_line_feed text ∷ lines (after_first is_line_feed text)
lines_first [] h = absurd (omega arith)
lines_first (b ∷ text) h = lines_from b text (is_line_feed b) refl

pub ruleset line_laws = (lines_first)
