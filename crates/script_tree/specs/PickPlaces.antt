-- The items that places and numbers side by side keep: those before the first place that is free.
use Rattle.std.specs.Prelude.{ℕ, ◌≡◌, ⊤, Bool, true, false, Option, None, Some, List, [], ◌∷◌}
use Rattle.std.specs.List.{AllByRecursion}
use Rattle.script_tree.specs.declared.picks.Place.{Place}
use Rattle.script_tree.specs.declared.picks.Place.TheVariants.{Free, NoNode, Node}

unfoldable pub item_of : Place → ℕ → Option ℕ
item_of Free number = None
item_of NoNode number = None
item_of Node number = Some number

unfoldable pub items_of : List Place → List ℕ → List (Option ℕ)
items_of [] numbers = []
items_of (Free ∷ places) numbers = []
items_of (NoNode ∷ places) [] = []
items_of (NoNode ∷ places) (number ∷ numbers) = None ∷ items_of places numbers
items_of (Node ∷ places) [] = []
items_of (Node ∷ places) (number ∷ numbers) = Some number ∷ items_of places numbers

unfoldable pub IsFree : Place → Type 0
IsFree place = place ≡ Free

-- Behind the first free place all are free.
unfoldable pub AreFreeBehind : List Place → Type 0
AreFreeBehind [] = ⊤
AreFreeBehind (Free ∷ places) = AllByRecursion IsFree places
AreFreeBehind (NoNode ∷ places) = AreFreeBehind places
AreFreeBehind (Node ∷ places) = AreFreeBehind places
