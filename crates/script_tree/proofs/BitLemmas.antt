-- Bits of words: one that is read, set or cleared, and the lowest from some bit on.
use Rattle.std.proofs.Common.{◌≡◌, ℕ, ◌+◌, ◌-◌, ◌*◌, min, inl, inr, ◌/◌, ◌%◌, ◌^◌, ◌<◌, ◌≤◌, false, not, ◌&&◌, ◌||◌, ◌==◌, nat_eq, cond, List, length, get_or, set, bit_and, bit_or, w64, refl, sym, ap, ◌∙◌, arith}
use Rattle.std.specs.Int.{bit_at, trailing_zeros}
use Rattle.std.proofs.lemmas.Bool.Decides.{nat_tests}
use Rattle.std.proofs.lemmas.Nat.{one_shl, pow_pos, and_le_l}
use Rattle.std.proofs.lemmas.Nat.Bits.{and_pow, bit_at-lt, bit_at-zero, bit_at_set_same, bit_at_set_other, bit_at_clear_same, bit_at_clear_other, bit_at_mask_inside, bit_at_mask_below, bit_at_and, bit_at-trailing_zeros}
use Rattle.std.proofs.lemmas.Bool.{cases_lt, cases_eq, eq-eqb, ne_eqb}
use Rattle.std.proofs.lemmas.List.{get_or-set_same, get_or-set_other}
use Rattle.script_tree.specs.Bits.{is_set, HasNoBit, IsLowestBit}

pub product_test : (b p m : ℕ) → b < 2 → 0 < p → m ≡ b * p → not (m == 0) ≡ (b == 1)
product_test b p m small above e = elim (cases_lt b 1) [
  | inl below ↦ let z : b ≡ 0 = omega arith in let n : m ≡ 0 = e ∙ ap (λ x. x * p) z ∙ omega arith in grind (arith, nat_tests)
  | inr above_zero ↦ let z : b ≡ 1 = omega arith in let n : m ≡ p = e ∙ ap (λ x. x * p) z ∙ omega arith in grind (arith, nat_tests)
]

-- reading one bit by a mask
pub bit_test : (n k : ℕ) → k < 64 → not (nat_eq (bit_and n (1 * 2 ^ k % 2 ^ 64)) 0) ≡ (bit_at n k == 1)
bit_test n k h = product_test (bit_at n k) (2 ^ k) _ (bit_at-lt n k) (pow_pos k) (ap (bit_and n) (one_shl k 64 h) ∙ and_pow n k)

pub is_set-word : (words : List ℕ) (i q : ℕ) → q / 64 ≡ i → is_set words q ≡ (bit_at (get_or words i 0) (q % 64) == 1)
unfolding is_set
is_set-word words i q e = ap (λ k. bit_at (get_or words k 0) (q % 64) == 1) e

-- a write of one word
pub is_set-set : (words : List ℕ) (i v q : ℕ) → i < length words → is_set (set words i v) q ≡ cond (q / 64 == i) (bit_at v (q % 64) == 1) (is_set words q)
unfolding is_set
is_set-set words i v q h = elim (cases_eq (q / 64) i) [
  | inl same ↦ rw (same, get_or-set_same words i v 0 h, eq-eqb i i refl) refl
  | inr other ↦ rw (get_or-set_other words i (q / 64) v 0 other, ne_eqb (q / 64) i other) refl
]

pub bit_with : (n k i : ℕ) → k < 64 → (bit_at (bit_or n (1 * 2 ^ k % 2 ^ 64)) i == 1) ≡ ((i == k) || (bit_at n i == 1))
bit_with n k i h = elim (cases_eq i k) [
  | inl same ↦ let e = bit_at_set_same w64 n k h in rw (same, e, eq-eqb k k refl) refl
  | inr other ↦ let e = bit_at_set_other w64 n k h i other in rw (e, ne_eqb i k other) refl
]

pub bit_without : (n k i : ℕ) → k < 64 → i < 64 → (bit_at (bit_and n (2 ^ 64 - 1 - 1 * 2 ^ k % 2 ^ 64)) i == 1) ≡ (not (i == k) && (bit_at n i == 1))
bit_without n k i h j = elim (cases_eq i k) [
  | inl same ↦ let e = bit_at_clear_same w64 n k h in rw (same, e, eq-eqb k k refl) refl
  | inr other ↦ let e = bit_at_clear_other w64 n k h i j other in rw (e, ne_eqb i k other) refl
]

pub same_bit : (q a : ℕ) → ((q / 64 == a / 64) && (q % 64 == a % 64)) ≡ (q == a)
same_bit q a = grind (arith, nat_tests)

-- ---- the lowest bit

pub masked_bit : (n k i : ℕ) → k ≤ i → i < 64 → bit_at (bit_and n (2 ^ 64 - 2 ^ k)) i ≡ bit_at n i
masked_bit n k i h j =
    let one = bit_at_mask_inside k 64 i h j in
    let small = bit_at-lt n i in
    bit_at_and n (2 ^ 64 - 2 ^ k) i ∙ ap (min (bit_at n i)) one ∙ omega arith

pub cleared_bit : (n k i : ℕ) → i < k → bit_at (bit_and n (2 ^ 64 - 2 ^ k)) i ≡ 0
cleared_bit n k i h = bit_at_and n (2 ^ 64 - 2 ^ k) i ∙ ap (min (bit_at n i)) (bit_at_mask_below k 64 i h) ∙ omega arith

pub from_bit : (n k t : ℕ) → bit_at (bit_and n (2 ^ 64 - 2 ^ k)) t ≡ 1 → k ≤ t
from_bit n k t h = elim (cases_lt t k) [ inl below ↦ let z = cleared_bit n k t below in absurd (omega arith) | inr above ↦ above ]

-- the lowest bit of what a mask leaves
pub lowest_masked : (n k m : ℕ) → n < 2 ^ 64 → k < 64 → m ≡ 2 ^ 64 - 2 ^ k → 0 < bit_and n m → IsLowestBit n k (trailing_zeros w64 (bit_and n m))
lowest_masked n k m fits h e some =
    let least = bit_at-trailing_zeros w64 (bit_and n m) some (omega (arith, and_le_l n m)) in
    let t = trailing_zeros w64 (bit_and n m) in
    let at : bit_at (bit_and n (2 ^ 64 - 2 ^ k)) t ≡ 1 = ap (λ x. bit_at (bit_and n x) t) (sym e) ∙ least.1 in
    let above : k ≤ t = from_bit n k t at in
    record {
      inside = least.0;
      at_or_above = above;
      is_one = sym (masked_bit n k t above least.0) ∙ at;
      lowest = λ i from below. sym (masked_bit n k i from (omega arith)) ∙ ap (λ x. bit_at (bit_and n x) i) (sym e) ∙ least.2 i below;
    }

pub none_masked : (n k m : ℕ) → m ≡ 2 ^ 64 - 2 ^ k → bit_and n m ≡ 0 → HasNoBit n k
none_masked n k m e zero_left i from below =
    sym (masked_bit n k i from below) ∙ ap (λ x. bit_at (bit_and n x) i) (sym e) ∙ ap (λ x. bit_at x i) zero_left ∙ bit_at-zero i

-- no number from `from` up to bit `low` of the word `index` is set
pub record SearchedTo (words : List ℕ) (from index low : ℕ) : Type 0 where
  pub within : low < 64
  pub reached : from ≤ 64 * index + low
  pub nothing : (p : ℕ) → from ≤ p → p < 64 * index + low → is_set words p ≡ false

pub clear_in_word : (words : List ℕ) (i p : ℕ) → p / 64 ≡ i → bit_at (get_or words i 0) (p % 64) ≡ 0 → is_set words p ≡ false
clear_in_word words i p e z = is_set-word words i p e ∙ ap (λ b. b == 1) z

pub search_begins : (words : List ℕ) (from : ℕ) → SearchedTo words from (from / 64) (from % 64)
search_begins words from = record { within = omega arith; reached = omega arith; nothing = λ p at below. absurd (omega arith) }

-- a word without a bit moves the search to the next
pub search_more : (words : List ℕ) (from i low : ℕ) → SearchedTo words from i low → HasNoBit (get_or words i 0) low → SearchedTo words from (i + 1) 0
search_more words from i low searched none =
    let within = searched.within in
    let reached = searched.reached in
    record {
      within = omega arith;
      reached = omega arith;
      nothing = λ p at below. elim (cases_lt p (64 * i + low)) [
        | inl before ↦ searched.nothing p at before
        | inr on ↦ clear_in_word words i p (omega arith) (none (p % 64) (omega arith) (omega arith))
      ];
    }
