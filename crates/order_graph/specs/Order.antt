-- The recorded order of live calls: pairs of slots, and what they lead to.
use Rattle.std.specs.Prelude.{◌≡◌, ℕ, ◌≤◌, Bool, true, false, not, ◌&&◌, ◌||◌, ◌==◌, if◌then◌else◌, List, []}
use Rattle.std.specs.Prelude.{◌∷◌, ◌++◌, Option, find, filter, replicate, slice_index_or, IsTrue, ◌↔◌, refl}
use Rattle.std.specs.List.{list_any}
use Rattle.std.specs.Option.{option_map}
use Rattle.std.specs.Coded.{Coded, code_by, coded×, coded_list, coded_ℕ}
use Rattle.std.specs.FinSet as set
use Rattle.order_graph.specs.Slots.{Slots}
pub use Rattle.order_graph.specs.declared.pair.Pair.{Pair}

-- this pair is recorded of a and b
abbrev pub joins : ℕ → ℕ → Pair → Bool
joins a b p = (p.from == a) && (p.to == b)

-- a is a direct predecessor of b
abbrev pub is_recorded : List Pair → ℕ → ℕ → Bool
is_recorded pairs a b = list_any (joins a b) pairs

-- the node of the pair of a and b, if it is recorded
abbrev pub node_of : List Pair → ℕ → ℕ → Option ℕ
node_of pairs a b = option_map (λ p. p.node) (find (joins a b) pairs)

-- A chain of recorded pairs leads from a to b.
pub data Precedes (pairs : List Pair) : ℕ → ℕ → Type 0 where
  by_pair : {a b : ℕ} → IsTrue (is_recorded pairs a b) → Precedes pairs a b
  by_chain : {a b c : ℕ} → IsTrue (is_recorded pairs a b) → Precedes pairs b c → Precedes pairs a c

-- Whether a chain leads from a to b, as a test: with one pair more, it goes through that pair once or not at all.
-- By `elim`, which leaves out what is not asked, so that examples compute.
abbrev pub reaches : List Pair → ℕ → ℕ → Bool
reaches [] a b = false
reaches (p ∷ pairs) a b = elim (reaches pairs a b) [
  | true ↦ true
  | false ↦ elim ((p.from == a) || reaches pairs a p.from) [ true ↦ (p.to == b) || reaches pairs p.to b | false ↦ false ]
]

-- The pairs with one of a and b. A pair that is recorded keeps its node, and a new one stands last.
abbrev pub linked : List Pair → ℕ → ℕ → ℕ → List Pair
linked pairs a b node = if is_recorded pairs a b then pairs else (pairs ++ record { from = a; to = b; node = node } ∷ [])

-- the pairs without those of slot a
abbrev pub retired : List Pair → ℕ → List Pair
retired pairs a = filter (λ p. not ((p.from == a) || (p.to == a))) pairs

-- What contracts see in an `OrderGraph`: slots are the numbers below `callers`, and each slot has one mask.
pub record Order : Type 0 where
  pub callers : ℕ
  pub pairs : List Pair
  pub masks : List Slots

-- the mask of a slot
abbrev pub mask_of : Order → ℕ → Slots
mask_of order b = slice_index_or order.masks b set.empty

-- no two pairs are of the same slots
abbrev pub AreApart : List Pair → Type 0
AreApart [] = Unit {0}
AreApart (p ∷ pairs) = (is_recorded pairs p.from p.to ≡ false) × AreApart pairs

-- Slot a is in the mask of slot b exactly where a precedes b.
abbrev pub MasksAreClosure : Order → Type 0
MasksAreClosure order = (a b : ℕ) → IsTrue (set.contains (mask_of order b) a) ↔ Precedes order.pairs a b

-- the order before any pair is recorded
abbrev pub without_pairs : ℕ → Order
without_pairs callers = record { callers = callers; pairs = []; masks = replicate callers set.empty }

-- a is the least slot from `from` on of which a pair with b is recorded
pub record IsNextBefore (pairs : List Pair) (b from a : ℕ) : Type 0 where
  pub recorded : IsTrue (is_recorded pairs a b)
  pub at_or_above : from ≤ a
  pub least : (x : ℕ) → from ≤ x → IsTrue (is_recorded pairs x b) → a ≤ x

-- a pair is stored as its three numbers
abbrev pub pair_code : Coded Pair
pair_code =
    code_by (ℕ × (ℕ × ℕ)) (coded× coded_ℕ (coded× coded_ℕ coded_ℕ)) (λ p. (p.from, (p.to, p.node)))
    (λ t. record { from = t.0; to = t.1.0; node = t.1.1 }) (λ _. refl)

-- an order is stored as its three parts
abbrev pub order_code : Coded Order
order_code =
    code_by (ℕ × (List Pair × List Slots)) (coded× coded_ℕ (coded× (coded_list pair_code) (coded_list (set.code coded_ℕ))))
    (λ o. (o.callers, (o.pairs, o.masks))) (λ t. record { callers = t.0; pairs = t.1.0; masks = t.1.1 }) (λ _. refl)
