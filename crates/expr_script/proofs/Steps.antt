-- One byte of a text.
use Rattle.std.proofs.Common.{◌≡◌, ℕ, zero, suc, ◌+◌, ◌-◌, ◌<◌, true, false, List, ◌∷◌, length, drop, get_or, sym, ap, ◌∙◌, arith}
use Rattle.std.specs.Prelude.{if◌then◌else◌}
use Rattle.std.proofs.lemmas.List.{drop_more}
use Rattle.expr_script.specs.Pieces.{is_blank, piece_len, pieces_from}

pub pieces_skip : (text : List ℕ) (at s : ℕ) → at < length text → 0 < s → pieces_from s at (drop at text) ≡ pieces_from (s - 1) (at + 1) (drop (at + 1) text)
pieces_skip text at zero h p = absurd (omega arith)
pieces_skip text at (suc s) h p =
    let e : suc s - 1 ≡ s = omega arith in
    ap (pieces_from (suc s) at) (drop_more text at 0 h) ∙ ap (λ n. pieces_from n (at + 1) (drop (at + 1) text)) (sym e)

pub pieces_blank : (text : List ℕ) (at : ℕ) → at < length text → is_blank (get_or text at 0) ≡ true → pieces_from 0 at (drop at text) ≡ pieces_from 0 (at + 1) (drop (at + 1) text)
pieces_blank text at h b =
    let x = get_or text at 0 in let rest = drop (at + 1) text in
    ap (pieces_from 0 at) (drop_more text at 0 h)
    ∙ ap (λ t. if t then pieces_from 0 (at + 1) rest else record { from = at; len = piece_len (x ∷ rest) } ∷ pieces_from (piece_len (x ∷ rest) - 1) (at + 1) rest) b

pub pieces_piece : (text : List ℕ) (at : ℕ) → at < length text → is_blank (get_or text at 0) ≡ false → pieces_from 0 at (drop at text) ≡ record { from = at; len = piece_len (drop at text) } ∷ pieces_from (piece_len (drop at text) - 1) (at + 1) (drop (at + 1) text)
pieces_piece text at h b =
    let x = get_or text at 0 in let rest = drop (at + 1) text in
    ap (pieces_from 0 at) (drop_more text at 0 h)
    ∙ ap (λ t. if t then pieces_from 0 (at + 1) rest else record { from = at; len = piece_len (x ∷ rest) } ∷ pieces_from (piece_len (x ∷ rest) - 1) (at + 1) rest) b
    ∙ ap (λ l. record { from = at; len = piece_len l } ∷ pieces_from (piece_len l - 1) (at + 1) rest) (sym (drop_more text at 0 h))

pub ruleset piece_steps = (pieces_skip, pieces_blank, pieces_piece)
