-- How an order is kept: the pairs, for each slot the set of its direct predecessors, a table of nodes,
-- the masks and their mirror.
use Rattle.std.specs.Prelude.{◌≡◌, ℕ, ◌+◌, ◌*◌, ◌<◌, ◌≤◌, ◌==◌, ◌&&◌, ◌||◌, List, length, Some, slice_index, IsTrue}
use Rattle.std.specs.List.{AllByRecursion}
use Rattle.order_graph.specs.Slots.{Slots}
use Rattle.order_graph.specs.Sets.{has}
use Rattle.order_graph.specs.Order.{Pair, is_recorded, node_of, Order, Precedes, MasksAreClosure, AreApart}

-- each pair is of slots
abbrev pub AreOfSlots : ℕ → List Pair → Type 0
AreOfSlots callers pairs = AllByRecursion (λ p. (p.from < callers) × (p.to < callers)) pairs

-- the order that is kept so
abbrev pub order_of : ℕ → List Pair → List Slots → Order
order_of callers pairs before = record { callers = callers; pairs = pairs; masks = before }

-- b is in the `after` of a exactly where a is in the `before` of b.
abbrev pub AreMirrored : List Slots → List Slots → Type 0
AreMirrored before after = (a b : ℕ) → has after b a ≡ has before a b

-- There is room for a pair of each two slots. The sets and the table say what the pairs say, where the row of b in the
-- table has a cell for each slot. The masks are the closure of the pairs, `after` is their mirror, and no slot precedes
-- itself.
pub record IsKept (callers capacity : ℕ) (pairs : List Pair) (earlier : List Slots) (cells : List ℕ) (before after : List Slots)
    : Type 0 where
  pub some : 0 < callers
  pub few : callers ≤ 256
  pub room : callers * callers ≤ capacity
  pub sets : length earlier ≡ callers
  pub table : length cells ≡ callers * callers
  pub masks : length before ≡ callers
  pub mirrors : length after ≡ callers
  pub slots : AreOfSlots callers pairs
  pub apart : AreApart pairs
  pub direct : (a b : ℕ) → has earlier a b ≡ is_recorded pairs a b
  pub nodes : (a b : ℕ) → IsTrue (is_recorded pairs a b) → node_of pairs a b ≡ Some (slice_index cells (b * callers + a))
  pub closure : MasksAreClosure (order_of callers pairs before)
  pub mirror : AreMirrored before after
  pub no_cycle : (a : ℕ) → ¬ (Precedes pairs a a)

-- After a pair of a and b joins, x is in the mask of y where it was, or where x is a or precedes it and y is b or comes after it.
abbrev pub IsPassedOn : List Slots → List Slots → ℕ → ℕ → Type 0
IsPassedOn old new a b =
    (x y : ℕ) → has new x y ≡ (has old x y || (((x == a) || has old x a) && ((y == b) || has old b y)))
