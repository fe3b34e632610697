-- A set of slots as four words of 64 bits.
use Rattle.std.specs.Prelude.{◌≡◌, ℕ, ◌<◌, ◌≤◌, IsTrue, false, List, filter}
use Rattle.std.specs.List.{range_with_len}
use Rattle.std.specs.Ordering.{nat_cmp}
use Rattle.std.specs.FinSet as set
use Rattle.script_tree.specs.Bits.{is_set}

-- a set of slots
abbrev pub Slots : Type 0
Slots = set.FinSet nat_cmp

-- The slots below 256 whose bit is set: slot q is the bit q modulo 64 of the word q / 64.
unfoldable pub slots_of : List ℕ → Slots
slots_of words = set.from_list (filter (is_set words) (range_with_len 0 256))

-- q is the least slot of the set from `from` on.
pub record IsLeastFrom (slots : Slots) (from q : ℕ) : Type 0 where
  pub found : IsTrue (set.contains slots q)
  pub at_or_above : from ≤ q
  pub least : (p : ℕ) → from ≤ p → p < q → set.contains slots p ≡ false

-- The set has no slot from `from` on.
abbrev pub HasNoneFrom : Slots → ℕ → Type 0
HasNoneFrom slots from = (p : ℕ) → from ≤ p → set.contains slots p ≡ false
