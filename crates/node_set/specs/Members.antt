-- What contracts see in a `NodeSet`.
use Rattle.std.specs.Prelude.{◌≡◌, ℕ, ◌*◌, ◌≤◌, nat_le, true, false, List, [], ◌∷◌, length, filter, Option, Some, None}
use Rattle.std.specs.List.{range_with_len}
use Rattle.script_tree.specs.Bits.{is_set}
use Rattle.node_set.specs.Bits.{Summarizes}

-- The size, and the nodes in ascending order. Each is below the size.
pub record Members : Type 0 where
  pub size : ℕ
  pub nodes : List ℕ

-- the set of this size without nodes, and the set with other nodes
abbrev pub no_members : ℕ → Members
no_members size = record { size = size; nodes = [] }

abbrev pub with_nodes : Members → List ℕ → Members
with_nodes members nodes = record members { nodes = nodes }

-- the first node of an ascending list that is at or above one
abbrev pub first_from : ℕ → List ℕ → Option ℕ
first_from n [] = None
first_from n (x ∷ xs) = elim (nat_le n x) [ true ↦ Some x | false ↦ first_from n xs ]

-- the nodes below the size whose bits are set
unfoldable pub nodes_of : List ℕ → ℕ → List ℕ
nodes_of words size = filter (is_set words) (range_with_len 0 size)

-- How a set is kept: words and a summary of them with room for as many nodes, no bit at or above the size, and the count.
pub record IsKept (words summary : List ℕ) (size count : ℕ) : Type 0 where
  pub few : size ≤ 16384
  pub some_words : length words ≤ 256
  pub room : size ≤ 64 * length words
  pub summary_room : length summary ≡ 4
  pub summarizes : Summarizes summary words
  pub inside : (q : ℕ) → size ≤ q → is_set words q ≡ false
  pub counted : count ≡ length (nodes_of words size)
