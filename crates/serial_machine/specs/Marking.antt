-- Marks of nodes, by their numbers.
use Rattle.std.specs.Prelude.{◌≡◌, ℕ, ◌+◌, ◌*◌, ◌<◌, ◌≤◌, Bool, true, false, List, length, slice_index_or}

-- whether a node is marked; a number without a mark is that of no marked one
abbrev pub is_marked : List Bool → ℕ → Bool
is_marked marks n = slice_index_or marks n false

-- from a number on, no node before another is marked
abbrev pub AreUnmarked : List Bool → ℕ → ℕ → Type 0
AreUnmarked marks from end = (n : ℕ) → from ≤ n → n < end → is_marked marks n ≡ false

-- what is marked stays marked
abbrev pub AreMore : List Bool → List Bool → Type 0
AreMore marks more = (n : ℕ) → is_marked marks n ≡ true → is_marked more n ≡ true

-- n is the first marked node from a number on
pub record IsNextMarked (marks : List Bool) (from n : ℕ) : Type 0 where
  pub from_there : from ≤ n
  pub within : n < length marks
  pub there : is_marked marks n ≡ true
  pub first : AreUnmarked marks from n

-- flags of blocks of 64 nodes each, block after block: a block that has a marked node has its flag
pub record AreFlags (marks flags : List Bool) : Type 0 where
  pub few : length marks ≤ 16384
  pub few_flags : length flags ≤ 257
  pub enough : length marks ≤ 64 * length flags
  pub flagged : (block n : ℕ) → 64 * block ≤ n → n < 64 * block + 64 → is_marked marks n ≡ true → is_marked flags block ≡ true
