-- Searches for the lowest bit.
use Rattle.std.proofs.Common.{◌≡◌, ℕ, ◌+◌, ◌-◌, ◌*◌, inl, inr, ◌/◌, ◌%◌, ◌^◌, ◌<◌, ◌≤◌, true, false, not, ◌==◌, List, length, get_or, w64, refl, sym, ap, ◌∙◌, arith}
use Rattle.std.specs.Int.{bit_at, trailing_zeros}
use Rattle.std.proofs.lemmas.Bool.Decides.{nat_tests}
use Rattle.std.proofs.lemmas.Nat.Bits.{bit_at-zero, bit_at-trailing_zeros}
use Rattle.std.proofs.lemmas.Bool.{cases_lt}
use Rattle.std.proofs.lemmas.List.{get_or_past}
use Rattle.script_tree.specs.Bits.{is_set, IsLowestBit}
use Rattle.script_tree.proofs.BitLemmas.{is_set-word, SearchedTo, clear_in_word}
use Rattle.node_set.specs.Bits.{IsLowestFrom, HasNoneFrom, Summarizes}

-- the lowest bit of a word that is not 0
lowest_of_word : (n : ℕ) → n < 2 ^ 64 → 0 < n → IsLowestBit n 0 (trailing_zeros w64 n)
lowest_of_word n fits some =
    let least = bit_at-trailing_zeros w64 n some fits in
    record { inside = least.0; at_or_above = omega arith; is_one = least.1; lowest = λ i from below. least.2 i below }

clear_past : (words : List ℕ) (p : ℕ) → length words ≤ p / 64 → is_set words p ≡ false
clear_past words p h = clear_in_word words (p / 64) p refl (ap (λ w. bit_at w (p % 64)) (get_or_past words (p / 64) 0 h) ∙ bit_at-zero (p % 64))

-- the lowest bit of a word where all before it is clear is the lowest of all
pub lowest_in_word : (words : List ℕ) (from i low bit : ℕ) → i < length words → SearchedTo words from i low → IsLowestBit (get_or words i 0) low bit → IsLowestFrom words from (i * 64 + bit)
lowest_in_word words from i low bit h searched lowest =
    let inside = lowest.inside in
    let above = lowest.at_or_above in
    let reached = searched.reached in
    let place : (i * 64 + bit) / 64 ≡ i = omega arith in
    let rest : (i * 64 + bit) % 64 ≡ bit = omega arith in
    record {
      inside = omega arith;
      found = is_set-word words i (i * 64 + bit) place ∙ ap (λ k. bit_at (get_or words i 0) k == 1) rest ∙ ap (λ b. b == 1) lowest.is_one;
      at_or_above = omega arith;
      lowest = λ p at below. elim (cases_lt p (64 * i + low)) [
        | inl before ↦ searched.nothing p at before
        | inr on ↦ clear_in_word words i p (omega arith) (lowest.lowest (p % 64) (omega arith) (omega arith))
      ];
    }

-- past the last word there is no bit
pub searched_all : (words : List ℕ) (from i low : ℕ) → length words ≤ i → SearchedTo words from i low → HasNoneFrom words from
searched_all words from i low h searched p at = elim (cases_lt p (64 * i)) [
  | inl below ↦ searched.nothing p at (omega arith)
  | inr past ↦ clear_past words p (omega arith)
]

-- ---- by the summary

not_zero : (n : ℕ) → not (n == 0) ≡ true → 0 < n
not_zero n h = grind (arith, nat_tests)

is_zero : (n : ℕ) → not (n == 0) ≡ false → n ≡ 0
is_zero n h = grind (arith, nat_tests)

pub some_word : (words summary : List ℕ) (w : ℕ) → Summarizes summary words → is_set summary w ≡ true → 0 < get_or words w 0
some_word words summary w says h = not_zero (get_or words w 0) (sym (says w) ∙ h)

pub word_inside : (words : List ℕ) (w : ℕ) → 0 < get_or words w 0 → w < length words
word_inside words w h = elim (cases_lt w (length words)) [ inl below ↦ below | inr past ↦ let z = get_or_past words w 0 past in absurd (omega arith) ]

no_word : (words summary : List ℕ) (w : ℕ) → Summarizes summary words → is_set summary w ≡ false → get_or words w 0 ≡ 0
no_word words summary w says h = is_zero (get_or words w 0) (sym (says w) ∙ h)

-- the words between are 0
pub search_jumps : (words summary : List ℕ) (from i later : ℕ) → Summarizes summary words → SearchedTo words from i 0 → IsLowestFrom summary i later → SearchedTo words from later 0
search_jumps words summary from i later says searched lowest =
    let reached = searched.reached in
    let above = lowest.at_or_above in
    record {
      within = omega arith;
      reached = omega arith;
      nothing = λ p at below. elim (cases_lt p (64 * i)) [
        | inl before ↦ searched.nothing p at (omega arith)
        | inr on ↦ clear_in_word words (p / 64) p refl (ap (λ w. bit_at w (p % 64)) (no_word words summary (p / 64) says (lowest.lowest (p / 64) (omega arith) (omega arith))) ∙ bit_at-zero (p % 64))
      ];
    }

pub lowest_later : (words summary : List ℕ) (from i later : ℕ) → Summarizes summary words → SearchedTo words from i 0 → IsLowestFrom summary i later → get_or words later 0 < 2 ^ 64 → IsLowestFrom words from (later * 64 + trailing_zeros w64 (get_or words later 0))
lowest_later words summary from i later says searched lowest fits =
    let some = some_word words summary later says lowest.found in
    lowest_in_word words from later 0 (trailing_zeros w64 (get_or words later 0)) (word_inside words later some) (search_jumps words summary from i later says searched lowest) (lowest_of_word (get_or words later 0) fits some)

pub none_later : (words summary : List ℕ) (from i : ℕ) → Summarizes summary words → SearchedTo words from i 0 → HasNoneFrom summary i → HasNoneFrom words from
none_later words summary from i says searched none p at = elim (cases_lt p (64 * i)) [
  | inl before ↦ searched.nothing p at (omega arith)
  | inr on ↦ clear_in_word words (p / 64) p refl (ap (λ w. bit_at w (p % 64)) (no_word words summary (p / 64) says (none (p / 64) (omega arith))) ∙ bit_at-zero (p % 64))
]
