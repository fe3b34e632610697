-- A list with a set for each slot.
use Rattle.std.specs.Prelude.{ℕ, ◌<◌, Bool, if◌then◌else◌, List, slice_index_or, IsTrue}
use Rattle.std.specs.FinSet as set
use Rattle.order_graph.specs.Slots.{Slots}

-- the set of slot b
abbrev pub slots_at : List Slots → ℕ → Slots
slots_at sets b = slice_index_or sets b set.empty

-- x is in the set of y
abbrev pub has : List Slots → ℕ → ℕ → Bool
has sets x y = set.contains (slots_at sets y) x

-- each member of the set is below n
abbrev pub HasAllBelow : Slots → ℕ → Type 0
HasAllBelow members n = (y : ℕ) → IsTrue (set.contains members y) → y < n

-- the set of y after the set of each member has changed
abbrev pub changed : (Slots → Slots) → List Slots → Slots → ℕ → Slots
changed change sets members y = if set.contains members y then change (slots_at sets y) else slots_at sets y
