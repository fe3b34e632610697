-- Bits of words: one that is read, set or cleared.
use Rattle.std.proofs.Common.{◌≡◌, ℕ, ◌-◌, ◌*◌, inl, inr, ◌/◌, ◌%◌, ◌^◌, ◌<◌, not, ◌&&◌, ◌||◌, ◌==◌, nat_eq, List, length, get_or, bit_and, bit_or, refl, arith}
use Rattle.std.proofs.lemmas.Bool.{cases_eq, eq-eqb, ne_eqb}
use Rattle.script_tree.specs.Bits.{is_set}
use Rattle.script_tree.proofs.BitLemmas.{bit_test, is_set-word, is_set-set, bit_with, bit_without, same_bit}
use Rattle.node_set.specs.Bits.{with_bit, without_bit}

pub is_set-read : (words : List ℕ) (q : ℕ) → not (nat_eq (bit_and (get_or words (q / 64) 0) (1 * 2 ^ (q % 64) % 2 ^ 64)) 0) ≡ is_set words q
unfolding is_set
is_set-read words q = bit_test (get_or words (q / 64) 0) (q % 64) (omega arith)

pub is_set-with_bit : (words : List ℕ) (a q : ℕ) → a / 64 < length words → is_set (with_bit words a) q ≡ ((q == a) || is_set words q)
unfolding with_bit
is_set-with_bit words a q h =
    let written = is_set-set words (a / 64) (bit_or (get_or words (a / 64) 0) (1 * 2 ^ (a % 64) % 2 ^ 64)) q h in
    let bit = bit_with (get_or words (a / 64) 0) (a % 64) (q % 64) (omega arith) in
    let place = same_bit q a in
    elim (cases_eq (q / 64) (a / 64)) [
      | inl same ↦ let word = is_set-word words (a / 64) q same in let here = eq-eqb (q / 64) (a / 64) same in rw (written, here, bit, word, ← place, here) refl
      | inr other ↦ let away = ne_eqb (q / 64) (a / 64) other in rw (written, away, ← place, away) refl
    ]

pub is_set-without_bit : (words : List ℕ) (a q : ℕ) → a / 64 < length words → is_set (without_bit words a) q ≡ (not (q == a) && is_set words q)
unfolding without_bit
is_set-without_bit words a q h =
    let written = is_set-set words (a / 64) (bit_and (get_or words (a / 64) 0) (2 ^ 64 - 1 - 1 * 2 ^ (a % 64) % 2 ^ 64)) q h in
    let bit = bit_without (get_or words (a / 64) 0) (a % 64) (q % 64) (omega arith) (omega arith) in
    let place = same_bit q a in
    elim (cases_eq (q / 64) (a / 64)) [
      | inl same ↦ let word = is_set-word words (a / 64) q same in let here = eq-eqb (q / 64) (a / 64) same in rw (written, here, bit, word, ← place, here) refl
      | inr other ↦ let away = ne_eqb (q / 64) (a / 64) other in rw (written, away, ← place, away) refl
    ]
