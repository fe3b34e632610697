-- The items that places and numbers keep: where they end, what stands at an index, and one item more.
use Rattle.std.proofs.Common.{◌≡◌, ℕ, ◌+◌, ◌<◌, ◌≤◌, List, [], ◌∷◌, ◌++◌, length, drop, get_or, slice_get, slice_set, slice_index_or, Option, None, Some, zero, suc, refl, sym, ap, ◌∙◌, subst, arith}
use Rattle.std.specs.List.{AllByRecursion}
use Rattle.script_tree.specs.declared.picks.Place.{Place}
use Rattle.script_tree.specs.declared.picks.Place.TheVariants.{Free, NoNode, Node}
use Rattle.script_tree.specs.PickPlaces.{item_of, items_of, IsFree, AreFreeBehind}

-- free places keep nothing
pub none_in_free : (places : List Place) (numbers : List ℕ) → AllByRecursion IsFree places → items_of places numbers ≡ []
unfolding items_of IsFree
none_in_free [] numbers all = refl
none_in_free (Free ∷ places) numbers all = refl
none_in_free (NoNode ∷ places) numbers all = let e : NoNode ≡ Free = all.0 in absurd (cc)
none_in_free (Node ∷ places) numbers all = let e : Node ≡ Free = all.0 in absurd (cc)

taken_at : (places : List Place) (numbers : List ℕ) (index : ℕ) → index < length places → length places ≡ length numbers →
    (slice_index_or places index Free ≡ Free → ⊥) →
    length (items_of (drop index places) (drop index numbers)) ≡ suc (length (items_of (drop (suc index) places) (drop (suc index) numbers)))
unfolding items_of
taken_at [] numbers index h e taken = absurd (omega (arith, h))
taken_at (place ∷ places) [] index h e taken = absurd (omega (arith, e))
taken_at (Free ∷ places) (n ∷ numbers) zero h e taken = absurd (taken refl)
taken_at (NoNode ∷ places) (n ∷ numbers) zero h e taken = refl
taken_at (Node ∷ places) (n ∷ numbers) zero h e taken = refl
taken_at (place ∷ places) (n ∷ numbers) (suc index) h e taken = taken_at places numbers index (omega (arith, h)) (omega (arith, e)) taken

-- one place that is taken is one item
pub taken_counts : (places : List Place) (numbers : List ℕ) (index : ℕ) → index < length places → length places ≡ length numbers →
    (slice_index_or places index Free ≡ Free → ⊥) →
    length (items_of (drop index places) (drop index numbers)) ≡ 1 + length (items_of (drop (index + 1) places) (drop (index + 1) numbers))
taken_counts places numbers index h e taken =
    let next : suc index ≡ index + 1 = omega arith in
    subst (λ m. length (items_of (drop index places) (drop index numbers)) ≡ 1 + length (items_of (drop m places) (drop m numbers))) next
    (omega (arith, taken_at places numbers index h e taken))

-- where a place is free, no item stands from it on
pub ends_at_free : (places : List Place) (numbers : List ℕ) (index : ℕ) → index < length places → length places ≡ length numbers →
    slice_index_or places index Free ≡ Free → length (items_of (drop index places) (drop index numbers)) ≡ 0
unfolding items_of
ends_at_free [] numbers index h e free = absurd (omega (arith, h))
ends_at_free (place ∷ places) [] index h e free = absurd (omega (arith, e))
ends_at_free (Free ∷ places) (n ∷ numbers) zero h e free = refl
ends_at_free (NoNode ∷ places) (n ∷ numbers) zero h e free = absurd (cc)
ends_at_free (Node ∷ places) (n ∷ numbers) zero h e free = absurd (cc)
ends_at_free (place ∷ places) (n ∷ numbers) (suc index) h e free = ends_at_free places numbers index (omega (arith, h)) (omega (arith, e)) free

no_numbers : (places : List Place) → items_of places [] ≡ []
unfolding items_of
no_numbers [] = refl
no_numbers (Free ∷ places) = refl
no_numbers (NoNode ∷ places) = refl
no_numbers (Node ∷ places) = refl

-- behind all numbers there is none
pub none_behind_all : (places : List Place) (numbers : List ℕ) (index : ℕ) → length numbers ≤ index → length (items_of (drop index places) (drop index numbers)) ≡ 0
unfolding items_of
none_behind_all [] numbers zero h = refl
none_behind_all [] numbers (suc index) h = refl
none_behind_all (place ∷ places) [] zero h = ap (λ xs. length xs) (no_numbers (place ∷ places))
none_behind_all (place ∷ places) (n ∷ numbers) zero h = absurd (omega (arith, h))
none_behind_all (place ∷ places) [] (suc index) h = ap (λ xs. length xs) (no_numbers (drop index places))
none_behind_all (place ∷ places) (n ∷ numbers) (suc index) h = none_behind_all places numbers index (omega (arith, h))

-- the item at an index
pub item_at : (places : List Place) (numbers : List ℕ) (index : ℕ) → index < length (items_of places numbers) →
    slice_get (items_of places numbers) index ≡ Some (item_of (slice_index_or places index Free) (slice_index_or numbers index 0))
unfolding items_of item_of
item_at [] numbers index h = absurd (omega (arith, h))
item_at (Free ∷ places) numbers index h = absurd (omega (arith, h))
item_at (NoNode ∷ places) [] index h = absurd (omega (arith, h))
item_at (Node ∷ places) [] index h = absurd (omega (arith, h))
item_at (NoNode ∷ places) (n ∷ numbers) zero h = refl
item_at (Node ∷ places) (n ∷ numbers) zero h = refl
item_at (NoNode ∷ places) (n ∷ numbers) (suc index) h = item_at places numbers index (omega (arith, h))
item_at (Node ∷ places) (n ∷ numbers) (suc index) h = item_at places numbers index (omega (arith, h))

-- a place keeps a node exactly where it says so
pub item_without : (place : Place) (number : ℕ) → (place ≡ Node → ⊥) → item_of place number ≡ None
unfolding item_of
item_without Free number other = refl
item_without NoNode number other = refl
item_without Node number other = absurd (other refl)

pub item_with : (place : Place) (number : ℕ) → place ≡ Node → item_of place number ≡ Some number
unfolding item_of
item_with Free number e = absurd (cc)
item_with NoNode number e = absurd (cc)
item_with Node number e = refl

-- there are no more items than places
pub few_items : (places : List Place) (numbers : List ℕ) → length (items_of places numbers) ≤ length places
unfolding items_of
few_items [] numbers = omega arith
few_items (Free ∷ places) numbers = omega arith
few_items (NoNode ∷ places) [] = omega arith
few_items (Node ∷ places) [] = omega arith
few_items (NoNode ∷ places) (n ∷ numbers) = omega (arith, few_items places numbers)
few_items (Node ∷ places) (n ∷ numbers) = omega (arith, few_items places numbers)

first_item : (place : Place) (number : ℕ) (places : List Place) (numbers : List ℕ) → (place ≡ Free → ⊥) →
    items_of (place ∷ places) (number ∷ numbers) ≡ item_of place number ∷ items_of places numbers
unfolding items_of item_of
first_item Free number places numbers taken = absurd (taken refl)
first_item NoNode number places numbers taken = refl
first_item Node number places numbers taken = refl

-- one item more, in the first free place
pub one_more : (places : List Place) (numbers : List ℕ) (place : Place) (number : ℕ) → AreFreeBehind places →
    length (items_of places numbers) < length places → length places ≡ length numbers → (place ≡ Free → ⊥) →
    items_of (slice_set places (length (items_of places numbers)) place) (slice_set numbers (length (items_of places numbers)) number) ≡
    items_of places numbers ++ item_of place number ∷ []
unfolding items_of item_of AreFreeBehind
one_more [] numbers place number free h e taken = absurd (omega (arith, h))
one_more (Free ∷ places) [] place number free h e taken = absurd (omega (arith, e))
one_more (Free ∷ places) (n ∷ numbers) place number free h e taken =
    first_item place number places numbers taken ∙ ap (λ rest. item_of place number ∷ rest) (none_in_free places numbers free)
one_more (NoNode ∷ places) [] place number free h e taken = absurd (omega (arith, e))
one_more (Node ∷ places) [] place number free h e taken = absurd (omega (arith, e))
one_more (NoNode ∷ places) (n ∷ numbers) place number free h e taken =
    ap (λ rest. None ∷ rest) (one_more places numbers place number free (omega (arith, h)) (omega (arith, e)) taken)
one_more (Node ∷ places) (n ∷ numbers) place number free h e taken =
    ap (λ rest. Some n ∷ rest) (one_more places numbers place number free (omega (arith, h)) (omega (arith, e)) taken)

free_behind_first : (place : Place) (places : List Place) → AllByRecursion IsFree places → AreFreeBehind places
unfolding AreFreeBehind IsFree
free_behind_first place [] all = tt
free_behind_first place (Free ∷ places) all = all.1
free_behind_first place (NoNode ∷ places) all = let e : NoNode ≡ Free = all.0 in absurd (cc)
free_behind_first place (Node ∷ places) all = let e : Node ≡ Free = all.0 in absurd (cc)

-- once the first free place is taken, those behind the next free one are free
pub still_free : (places : List Place) (numbers : List ℕ) (place : Place) → AreFreeBehind places →
    length (items_of places numbers) < length places → length places ≡ length numbers → (place ≡ Free → ⊥) →
    AreFreeBehind (slice_set places (length (items_of places numbers)) place)
unfolding items_of AreFreeBehind
still_free [] numbers place free h e taken = absurd (omega (arith, h))
still_free (Free ∷ places) numbers Free free h e taken = absurd (taken refl)
still_free (Free ∷ places) numbers NoNode free h e taken = free_behind_first NoNode places free
still_free (Free ∷ places) numbers Node free h e taken = free_behind_first Node places free
still_free (NoNode ∷ places) [] place free h e taken = absurd (omega (arith, e))
still_free (Node ∷ places) [] place free h e taken = absurd (omega (arith, e))
still_free (NoNode ∷ places) (n ∷ numbers) place free h e taken = still_free places numbers place free (omega (arith, h)) (omega (arith, e)) taken
still_free (Node ∷ places) (n ∷ numbers) place free h e taken = still_free places numbers place free (omega (arith, h)) (omega (arith, e)) taken

-- a place with an item is not free
pub none_is_taken : NoNode ≡ Free → ⊥
none_is_taken e = absurd (cc)

pub node_is_taken : Node ≡ Free → ⊥
node_is_taken e = absurd (cc)

-- what a list is once an item is put in, as its call has it: the item's place and number come as a pair
pub put_free : (places : List Place) (numbers : List ℕ) (put : Place × ℕ) (place : Place) (number index : ℕ) → put ≡ (place, number) →
    index ≡ length (items_of places numbers) → AreFreeBehind places → index < length places → length places ≡ length numbers →
    (place ≡ Free → ⊥) → AreFreeBehind (slice_set places index put.0)
put_free places numbers put place number index is at free h e taken =
    subst (λ p. AreFreeBehind (slice_set places index p.0)) (sym is)
    (subst (λ k. AreFreeBehind (slice_set places k place)) (sym at)
    (still_free places numbers place free (omega (arith, h, at)) e taken))

pub put_items : (places : List Place) (numbers : List ℕ) (put : Place × ℕ) (place : Place) (number index : ℕ) (item : Option ℕ) (items : List (Option ℕ)) →
    put ≡ (place, number) → items_of places numbers ≡ items → item ≡ item_of place number →
    index ≡ length (items_of places numbers) → AreFreeBehind places → index < length places → length places ≡ length numbers →
    (place ≡ Free → ⊥) → items_of (slice_set places index put.0) (slice_set numbers index put.1) ≡ items ++ item ∷ []
put_items places numbers put place number index item items is before new at free h e taken =
    subst (λ p. items_of (slice_set places index p.0) (slice_set numbers index p.1) ≡ items ++ item ∷ []) (sym is)
    (subst (λ k. items_of (slice_set places k place) (slice_set numbers k number) ≡ items ++ item ∷ []) (sym at)
    (one_more places numbers place number free (omega (arith, h, at)) e taken ∙ (ap (λ xs. xs ++ item_of place number ∷ []) before ∙ ap (λ x. items ++ x ∷ []) (sym new))))
