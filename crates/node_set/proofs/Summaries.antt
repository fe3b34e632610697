-- The summary after a bit is set or cleared.
use Rattle.std.proofs.Common.{◌≡◌, ◌≢◌, ℕ, inl, inr, ◌/◌, ◌%◌, ◌<◌, ◌≤◌, true, not, ◌&&◌, ◌||◌, ◌==◌, List, length, get_or, refl, sym, ap, ◌∙◌, arith}
use Rattle.std.specs.Int.{bit_at}
use Rattle.std.proofs.lemmas.Bool.{cases_eq, eq-eqb, ne_eqb, true≢false}
use Rattle.std.proofs.lemmas.Nat.Bits.{bit_at-zero}
use Rattle.std.proofs.lemmas.List.{get_or-set_other}
use Rattle.script_tree.specs.Bits.{is_set}
use Rattle.script_tree.proofs.BitLemmas.{is_set-word}
use Rattle.node_set.specs.Bits.{with_bit, without_bit, Summarizes}
use Rattle.node_set.proofs.BitLemmas.{is_set-with_bit, is_set-without_bit}

-- a word with a bit is not 0
pub word_has : (words : List ℕ) (q : ℕ) → is_set words q ≡ true → not (get_or words (q / 64) 0 == 0) ≡ true
word_has words q h = elim (cases_eq (get_or words (q / 64) 0) 0) [
  | inl zero_word ↦ absurd (true≢false (sym h ∙ is_set-word words (q / 64) q refl ∙ ap (λ w. bit_at w (q % 64) == 1) zero_word ∙ ap (λ b. b == 1) (bit_at-zero (q % 64))))
  | inr some ↦ ap not (ne_eqb (get_or words (q / 64) 0) 0 some)
]

other_with : (words : List ℕ) (a w : ℕ) → w ≢ a / 64 → get_or (with_bit words a) w 0 ≡ get_or words w 0
unfolding with_bit
other_with words a w ne = get_or-set_other words (a / 64) w _ 0 ne

other_without : (words : List ℕ) (a w : ℕ) → w ≢ a / 64 → get_or (without_bit words a) w 0 ≡ get_or words w 0
unfolding without_bit
other_without words a w ne = get_or-set_other words (a / 64) w _ 0 ne

pub summarizes-with : (summary words : List ℕ) (a : ℕ) → a / 64 < length words → length words ≤ 256 → length summary ≡ 4 → Summarizes summary words → Summarizes (with_bit summary (a / 64)) (with_bit words a)
summarizes-with summary words a within few four says w = is_set-with_bit summary (a / 64) w (omega arith) ∙ elim (cases_eq w (a / 64)) [
  | inl same ↦
      let there : is_set (with_bit words a) a ≡ true = is_set-with_bit words a a within ∙ ap (λ b. b || is_set words a) (eq-eqb a a refl) in
      ap (λ b. b || is_set summary w) (eq-eqb w (a / 64) same) ∙ sym (ap (λ v. not (get_or (with_bit words a) v 0 == 0)) same ∙ word_has (with_bit words a) a there)
  | inr other ↦ ap (λ b. b || is_set summary w) (ne_eqb w (a / 64) other) ∙ says w ∙ sym (ap (λ v. not (v == 0)) (other_with words a w other))
]

-- the word keeps another bit
pub summarizes-without : (summary words : List ℕ) (a : ℕ) → is_set words a ≡ true → (get_or (without_bit words a) (a / 64) 0 ≢ 0) → Summarizes summary words → Summarizes summary (without_bit words a)
summarizes-without summary words a there more says w = elim (cases_eq w (a / 64)) [
  | inl same ↦
      says w ∙ ap (λ v. not (get_or words v 0 == 0)) same ∙ word_has words a there
      ∙ sym (ap (λ v. not (get_or (without_bit words a) v 0 == 0)) same ∙ ap not (ne_eqb (get_or (without_bit words a) (a / 64) 0) 0 more))
  | inr other ↦ says w ∙ sym (ap (λ v. not (v == 0)) (other_without words a w other))
]

-- the word is 0 now
pub summarizes-emptied : (summary words : List ℕ) (a : ℕ) → (a / 64) / 64 < length summary → get_or (without_bit words a) (a / 64) 0 ≡ 0 → Summarizes summary words → Summarizes (without_bit summary (a / 64)) (without_bit words a)
summarizes-emptied summary words a within empty says w = is_set-without_bit summary (a / 64) w within ∙ elim (cases_eq w (a / 64)) [
  | inl same ↦
      ap (λ b. not b && is_set summary w) (eq-eqb w (a / 64) same)
      ∙ sym (ap (λ v. not (get_or (without_bit words a) v 0 == 0)) same ∙ ap (λ v. not (v == 0)) empty)
  | inr other ↦ ap (λ b. not b && is_set summary w) (ne_eqb w (a / 64) other) ∙ says w ∙ sym (ap (λ v. not (v == 0)) (other_without words a w other))
]
