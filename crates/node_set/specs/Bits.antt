-- Numbers as bits of words: q is the bit q modulo 64 of the word q / 64.
use Rattle.std.specs.Prelude.{◌≡◌, ℕ, ◌-◌, ◌*◌, ◌^◌, ◌<◌, ◌≤◌, ◌/◌, ◌%◌, ◌==◌, not, true}
use Rattle.std.specs.Prelude.{false, List, length, slice_index, slice_set, bit_and, bit_or}
use Rattle.script_tree.specs.Bits.{is_set}

-- the words with a bit set, and with it cleared
unfoldable pub with_bit : List ℕ → ℕ → List ℕ
with_bit words q = slice_set words (q / 64) (bit_or (slice_index words (q / 64)) (1 * 2 ^ (q % 64) % 2 ^ 64))

unfoldable pub without_bit : List ℕ → ℕ → List ℕ
without_bit words q = slice_set words (q / 64) (bit_and (slice_index words (q / 64)) (2 ^ 64 - 1 - 1 * 2 ^ (q % 64) % 2 ^ 64))

-- q is the least number from `from` on whose bit is set.
pub record IsLowestFrom (words : List ℕ) (from q : ℕ) : Type 0 where
  pub inside : q / 64 < length words
  pub found : is_set words q ≡ true
  pub at_or_above : from ≤ q
  pub lowest : (p : ℕ) → from ≤ p → p < q → is_set words p ≡ false

abbrev pub HasNoneFrom : List ℕ → ℕ → Type 0
HasNoneFrom words from = (p : ℕ) → from ≤ p → is_set words p ≡ false

-- A bit of the summary is set exactly where its word is not 0.
abbrev pub Summarizes : List ℕ → List ℕ → Type 0
Summarizes summary words = (w : ℕ) → is_set summary w ≡ not (slice_index words w == 0)
