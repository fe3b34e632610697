-- Going over pieces until one is a word.
use Rattle.std.proofs.Common.{◌≡◌, ℕ, suc, ◌+◌, ◌<◌, ◌≤◌, true, false, List, [], ◌∷◌, ◌++◌, length, take, drop, get_or, refl, sym, ap, ◌∙◌, arith, drop-cons, add-one, append_assoc, append-nil}
use Rattle.std.proofs.Math.ListN.{drop_of_length-le}
use Rattle.std.specs.Prelude.{if◌then◌else◌, ◌||◌}
use Rattle.std.specs.List.{All, onto_first}
use Rattle.std.specs.Str.{bytes_eq}
use Rattle.std.proofs.lemmas.List.{take_more}
use Rattle.expr_script.specs.declared.pieces.Piece.{Piece}
use Rattle.expr_script.specs.Pieces.{words_among, bytes_of}
use Rattle.expr_script.proofs.CutBounds.{all_within}
use Rattle.deck_lines.specs.Cuts.{has, before, behind, ArePiecesOf}
use Rattle.deck_lines.specs.Reading.{cut}
use Rattle.deck_lines.specs.Forms.{Words}
use Rattle.deck_lines.proofs.Cutting.{cut_some}

-- pieces of a text lie in it
pub pieces_lie : (text : List ℕ) (pieces : List Piece) → ArePiecesOf text pieces → All (λ piece. piece.from + piece.len ≤ length text) pieces
pieces_lie text pieces all = all_within text pieces all

-- no piece before a place is the word
pub record NotYet (word text : List ℕ) (pieces : List Piece) (at : ℕ) : Type 0 where
  pub before_it : before word (words_among text pieces) ≡ words_among text (take at pieces) ++ before word (words_among text (drop at pieces))
  pub behind_it : behind word (words_among text pieces) ≡ behind word (words_among text (drop at pieces))
  pub has_it : has word (words_among text pieces) ≡ has word (words_among text (drop at pieces))

drop_at : (pieces : List Piece) (at : ℕ) (d p : Piece) → at < length pieces → p ≡ get_or pieces at d → drop at pieces ≡ p ∷ drop (at + 1) pieces
drop_at pieces at d p h e =
    let there : drop at pieces ≡ get_or pieces at d ∷ drop (at + 1) pieces = rw (add-one, drop-cons pieces at d) refl in
    there ∙ ap (λ x. x ∷ drop (at + 1) pieces) (sym e)

take_known : (pieces : List Piece) (at : ℕ) (d p : Piece) → at < length pieces → p ≡ get_or pieces at d → take (at + 1) pieces ≡ take at pieces ++ p ∷ []
take_known pieces at d p h e = take_more pieces at d h ∙ ap (λ x. take at pieces ++ x ∷ []) (sym e)

words_append : (text : List ℕ) (a b : List Piece) → words_among text (a ++ b) ≡ words_among text a ++ words_among text b
words_append text [] b = refl
words_append text (p ∷ a) b = ap (λ ws. bytes_of text p ∷ ws) (words_append text a b)

pub not_yet : (word text : List ℕ) (pieces : List Piece) → NotYet word text pieces 0
not_yet word text pieces = record { before_it = refl; behind_it = refl; has_it = refl }

pub not_here : (word text : List ℕ) (pieces : List Piece) (at : ℕ) (d p : Piece) → at < length pieces → p ≡ get_or pieces at d → bytes_eq (bytes_of text p) word ≡ false → NotYet word text pieces at → NotYet word text pieces (at + 1)
not_here word text pieces at d p h e f n =
    let rest = words_among text (drop (at + 1) pieces) in
    let w = bytes_of text p in
    let cut_here = ap (words_among text) (drop_at pieces at d p h e) in
    record {
      before_it = n.before_it
          ∙ ap (λ ws. words_among text (take at pieces) ++ before word ws) cut_here
          ∙ ap (λ t. words_among text (take at pieces) ++ (if t then [] else w ∷ before word rest)) f
          ∙ sym (append_assoc (words_among text (take at pieces)) (w ∷ []) (before word rest))
          ∙ ap (λ ws. ws ++ before word rest) (sym (words_append text (take at pieces) (p ∷ [])) ∙ ap (words_among text) (sym (take_known pieces at d p h e)));
      behind_it = n.behind_it ∙ ap (behind word) cut_here ∙ ap (λ t. if t then rest else behind word rest) f;
      has_it = n.has_it ∙ ap (has word) cut_here ∙ ap (λ t. t || has word rest) f;
    }

pub here_before : (word text : List ℕ) (pieces : List Piece) (at : ℕ) (d p : Piece) → at < length pieces → p ≡ get_or pieces at d → bytes_eq (bytes_of text p) word ≡ true → NotYet word text pieces at → words_among text (take at pieces) ≡ before word (words_among text pieces)
here_before word text pieces at d p h e f n =
    let rest = words_among text (drop (at + 1) pieces) in
    let w = bytes_of text p in
    let cut_here = ap (words_among text) (drop_at pieces at d p h e) in
    sym (n.before_it
    ∙ ap (λ ws. words_among text (take at pieces) ++ before word ws) cut_here
    ∙ ap (λ t. words_among text (take at pieces) ++ (if t then [] else w ∷ before word rest)) f
    ∙ append-nil (words_among text (take at pieces)))

pub here_behind : (word text : List ℕ) (pieces : List Piece) (at : ℕ) (d p : Piece) → at < length pieces → p ≡ get_or pieces at d → bytes_eq (bytes_of text p) word ≡ true → NotYet word text pieces at → words_among text (drop (at + 1) pieces) ≡ behind word (words_among text pieces)
here_behind word text pieces at d p h e f n =
    let rest = words_among text (drop (at + 1) pieces) in
    let cut_here = ap (words_among text) (drop_at pieces at d p h e) in
    sym (n.behind_it ∙ ap (behind word) cut_here ∙ ap (λ t. if t then rest else behind word rest) f)

pub here_has : (word text : List ℕ) (pieces : List Piece) (at : ℕ) (d p : Piece) → at < length pieces → p ≡ get_or pieces at d → bytes_eq (bytes_of text p) word ≡ true → NotYet word text pieces at → has word (words_among text pieces) ≡ true
here_has word text pieces at d p h e f n =
    let rest = words_among text (drop (at + 1) pieces) in
    n.has_it ∙ ap (has word) (ap (words_among text) (drop_at pieces at d p h e)) ∙ ap (λ t. t || has word rest) f

pub never : (word text : List ℕ) (pieces : List Piece) (at : ℕ) → length pieces ≤ at → NotYet word text pieces at → has word (words_among text pieces) ≡ false
never word text pieces at h n = n.has_it ∙ ap (λ ps. has word (words_among text ps)) (drop_of_length-le pieces h)

pub ruleset scan_laws = (not_yet, not_here, here_before, here_behind, here_has, never, pieces_lie)

-- how many lists the pieces before a place were counted into, the one that goes on there with them
pub record Counted (word text : List ℕ) (pieces : List Piece) (at count : ℕ) : Type 0 where
  pub so_far : length (cut word (words_among text pieces)) + 1 ≡ count + length (cut word (words_among text (drop at pieces)))
  pub few : count ≤ at + 1

length_onto : (w : List ℕ) (lists : List Words) → 1 ≤ length lists → length (onto_first w lists) ≡ length lists
length_onto w [] h = absurd (omega (arith, h))
length_onto w (first ∷ lists) h = refl

pub count_starts : (word text : List ℕ) (pieces : List Piece) → Counted word text pieces 0 1
count_starts word text pieces = record { so_far = omega arith; few = omega arith }

pub counts_here : (word text : List ℕ) (pieces : List Piece) (at count : ℕ) (d p : Piece) → at < length pieces → p ≡ get_or pieces at d → bytes_eq (bytes_of text p) word ≡ true → Counted word text pieces at count → Counted word text pieces (at + 1) (count + 1)
counts_here word text pieces at count d p h e f n =
    let rest = words_among text (drop (at + 1) pieces) in
    let w = bytes_of text p in
    let here : length (cut word (words_among text (drop at pieces))) ≡ suc (length (cut word rest)) =
    ap (λ ps. length (cut word (words_among text ps))) (drop_at pieces at d p h e)
    ∙ ap (λ t. length (if t then [] ∷ cut word rest else onto_first w (cut word rest))) f in
    let so_far = n.so_far in
    let few = n.few in
    record { so_far = omega (arith, so_far, here); few = omega (arith, few) }

pub counts_none : (word text : List ℕ) (pieces : List Piece) (at count : ℕ) (d p : Piece) → at < length pieces → p ≡ get_or pieces at d → bytes_eq (bytes_of text p) word ≡ false → Counted word text pieces at count → Counted word text pieces (at + 1) count
counts_none word text pieces at count d p h e f n =
    let rest = words_among text (drop (at + 1) pieces) in
    let w = bytes_of text p in
    let here : length (cut word (words_among text (drop at pieces))) ≡ length (cut word rest) =
    ap (λ ps. length (cut word (words_among text ps))) (drop_at pieces at d p h e)
    ∙ ap (λ t. length (if t then [] ∷ cut word rest else onto_first w (cut word rest))) f
    ∙ length_onto w (cut word rest) (cut_some word rest) in
    let so_far = n.so_far in
    let few = n.few in
    record { so_far = omega (arith, so_far, here); few = omega (arith, few) }

pub count_ends : (word text : List ℕ) (pieces : List Piece) (at count : ℕ) → length pieces ≤ at → Counted word text pieces at count → count ≡ length (cut word (words_among text pieces))
count_ends word text pieces at count h n =
    let last : length (cut word (words_among text (drop at pieces))) ≡ 1 = ap (λ ps. length (cut word (words_among text ps))) (drop_of_length-le pieces h) in
    let so_far = n.so_far in
    omega (arith, so_far, last)

pub ruleset count_laws = (count_starts, counts_here, counts_none, count_ends, pieces_lie)
