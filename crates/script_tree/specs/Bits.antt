-- Numbers as bits of words: q is the bit q modulo 64 of the word q / 64.
use Rattle.std.specs.Prelude.{◌≡◌, ℕ, ◌<◌, ◌≤◌, ◌/◌, ◌%◌, ◌==◌, Bool, List, slice_index}
use Rattle.std.specs.Int.{bit_at}

unfoldable pub is_set : List ℕ → ℕ → Bool
is_set words q = bit_at (slice_index words (q / 64)) (q % 64) == 1

-- The word has no bit from this one on.
abbrev pub HasNoBit : ℕ → ℕ → Type 0
HasNoBit word from = (i : ℕ) → from ≤ i → i < 64 → bit_at word i ≡ 0

-- `bit` is the lowest of the word's bits from `from` on.
pub record IsLowestBit (word from bit : ℕ) : Type 0 where
  pub inside : bit < 64
  pub at_or_above : from ≤ bit
  pub is_one : bit_at word bit ≡ 1
  pub lowest : (i : ℕ) → from ≤ i → i < bit → bit_at word i ≡ 0
