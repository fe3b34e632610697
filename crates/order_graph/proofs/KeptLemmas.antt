-- What is kept of an order through its calls.
use Rattle.std.proofs.Common.{◌≡◌, ◌≢◌, ℕ, ◌+◌, ◌*◌, ◌<◌, ◌≤◌, ◌⊎◌, inl, inr, Bool, true, false, not, ◌&&◌, ◌||◌, ◌==◌, eqb, cond, List, [], ◌∷◌, ◌++◌, length, get_or, set, map, replicate, Option, Some, None, refl, sym, ap, ◌∙◌, subst, arith}
use Rattle.std.specs.Prelude.{IsTrue, IfSome, IfNone, ◌↔◌}
use Rattle.std.specs.Option.{is_some, option_map, option_or}
use Rattle.std.specs.List.{list_any, filter, find, AllByRecursion, IsDistinct}
use Rattle.std.specs.Ordering.{nat_cmp}
use Rattle.std.specs.Cmp.{nat_cmp_total}
use Rattle.std.specs.FinSet as finset
use Rattle.std.proofs.lemmas.Bool.{cases_eq, cases_lt, cases_Bool, or_cases, or_from, or_parts, and_right, and_parts, and_from, eqb-true, eq-eqb, ne_eqb, false_from_ne_true, both_ways, false≢true}
use Rattle.std.proofs.lemmas.Bool.Decides.{nat_tests}
use Rattle.std.proofs.lemmas.List.{get_or-set_same, get_or-set_other, get_or_past, get_or_default, length-set, length-map, get_or-replicate, length-replicate, length-append}
use Rattle.std.proofs.lemmas.List.Folds.{find-append, list_any-append}
use Rattle.std.proofs.lemmas.Map.Views.{any-filter_same}
use Rattle.std.proofs.lemmas.Map.Steps.{length-le_from_distinct_below}
use Rattle.std.proofs.lemmas.Nat.{mul-add-lt, same_from_place}
use Rattle.order_graph.specs.Slots.{Slots, IsLeastFrom, HasNoneFrom}
use Rattle.order_graph.specs.Sets.{slots_at, has, HasAllBelow, changed}
use Rattle.order_graph.specs.Order.{Pair, joins, is_recorded, node_of, Precedes, retired, AreApart, IsNextBefore}
use Rattle.order_graph.specs.Order.Precedes.{by_pair, by_chain}
use Rattle.order_graph.specs.Kept.{AreOfSlots, AreMirrored, IsKept, IsPassedOn}
use Rattle.order_graph.proofs.Closure.{Adds, Drops, Precedes-join, masks_added, masks_dropped, last_pair, Precedes-fewer, no_cycle-added}
use Rattle.order_graph.proofs.SlotLemmas.{tied}

has-insert : (s : Slots) (a x : ℕ) → finset.contains (finset.insert s a) x ≡ ((x == a) || finset.contains s x)
has-insert s a x = finset.contains-insert nat_cmp_total s a x ∙ ap (λ b. b || finset.contains s x) (tied x a)

has-remove : (s : Slots) (a x : ℕ) → finset.contains (finset.remove s a) x ≡ (not (x == a) && finset.contains s x)
has-remove s a x = finset.contains-remove nat_cmp_total s a x ∙ ap (λ b. not b && finset.contains s x) (tied x a)

none_past : (sets : List Slots) (x y : ℕ) → length sets ≤ y → finset.contains (slots_at sets y) x ≡ false
none_past sets x y h = ap (λ s. finset.contains s x) (get_or_past sets y finset.empty h) ∙ finset.contains-empty nat_cmp x

and_true_or : (t c : Bool) → (t || c) ≡ ((t && true) || c)
and_true_or true c = refl
and_true_or false c = refl

and_false_or : (t c : Bool) → c ≡ ((t && false) || c)
and_false_or true c = refl
and_false_or false c = refl

-- one more direct predecessor
pub has-direct : (direct : List Slots) (a b : ℕ) → b < length direct → (x y : ℕ) → finset.contains (slots_at (set direct b (finset.insert (slots_at direct b) a)) y) x ≡ (((x == a) && (y == b)) || finset.contains (slots_at direct y) x)
has-direct direct a b h x y = elim (cases_eq y b) [
  | inl same ↦ rw (same, get_or-set_same direct b (finset.insert (slots_at direct b) a) finset.empty h, has-insert (slots_at direct b) a x, eq-eqb b b refl) (and_true_or (x == a) (finset.contains (slots_at direct b) x))
  | inr other ↦ rw (get_or-set_other direct b y (finset.insert (slots_at direct b) a) finset.empty other, ne_eqb y b other) (and_false_or (x == a) (finset.contains (slots_at direct y) x))
]

has-union : (s t : Slots) (x : ℕ) → finset.contains (finset.union s t) x ≡ (finset.contains s x || finset.contains t x)
has-union s t x = finset.contains-union nat_cmp_total s t x

or_pick : (c m j : Bool) → (m || (j && c)) ≡ cond c (m || j) m
or_pick c true j = elim c as (λ c. true ≡ cond c true true) [ true ↦ refl | false ↦ refl ]
or_pick true false true = refl
or_pick true false false = refl
or_pick false false true = refl
or_pick false false false = refl

cond_has : (c : Bool) (s t : Slots) (x : ℕ) → finset.contains (cond c s t) x ≡ cond c (finset.contains s x) (finset.contains t x)
cond_has true s t x = refl
cond_has false s t x = refl

-- ---- a pair joins

not_member : (members : Slots) (n y : ℕ) → HasAllBelow members n → n ≤ y → finset.contains members y ≡ false
not_member members n y inside past = false_from_ne_true _ (λ h. let below = inside y h in absurd (omega arith))

past_pass : (m j c : Bool) → m ≡ false → c ≡ false → (m || (j && c)) ≡ false
past_pass m j c h k = or_from m (j && c) h (and_right j c k)

-- what the sets have after each member's took in more
joined_test : (old new : List Slots) (members more : Slots) → length new ≡ length old → HasAllBelow members (length old) → ((y : ℕ) → y < length old → slots_at new y ≡ changed (λ s. finset.union s more) old members y) → (x y : ℕ) → has new x y ≡ (has old x y || (finset.contains more x && finset.contains members y))
joined_test old new members more len inside joined x y = elim (cases_lt y (length old)) [
  | inl below ↦
      let c = finset.contains members y in
      let m = has old x y in
      ap (λ s. finset.contains s x) (joined y below)
      ∙ cond_has c (finset.union (slots_at old y) more) (slots_at old y) x
      ∙ ap (λ t. cond c t m) (has-union (slots_at old y) more x)
      ∙ sym (or_pick c m (finset.contains more x))
  | inr past ↦ none_past new x y (omega arith) ∙ sym (past_pass (has old x y) (finset.contains more x) (finset.contains members y) (none_past old x y past) (not_member members (length old) y inside past))
]

inside_none : (sets : List Slots) (x y : ℕ) → has sets x y ≡ true → y < length sets
inside_none sets x y h = elim (cases_lt y (length sets)) [ inl below ↦ below | inr past ↦ absurd (both_ways _ (none_past sets x y past) h) ]

-- slot a and all that precede it are slots
pub earlier_inside : (before after : List Slots) (a : ℕ) (earlier : Slots) → AreMirrored before after → a < length after → earlier ≡ finset.insert (slots_at before a) a → HasAllBelow earlier (length after)
earlier_inside before after a earlier mirror fits is x h = elim (or_cases _ _ (sym (ap (λ s. finset.contains s x) is ∙ has-insert (slots_at before a) a x) ∙ h)) [
  | inl same ↦ subst (λ (k : ℕ). k < length after) (sym (eqb-true x a same)) fits
  | inr there ↦ inside_none after a x (mirror x a ∙ there)
]

-- slot b and all that it precedes are slots
pub later_inside : (before after : List Slots) (b : ℕ) (later : Slots) → AreMirrored before after → b < length before → later ≡ finset.insert (slots_at after b) b → HasAllBelow later (length before)
later_inside before after b later mirror fits is y h = elim (or_cases _ _ (sym (ap (λ s. finset.contains s y) is ∙ has-insert (slots_at after b) b y) ∙ h)) [
  | inl same ↦ subst (λ (k : ℕ). k < length before) (sym (eqb-true y b same)) fits
  | inr there ↦ inside_none before b y (sym (mirror b y) ∙ there)
]

and-swap : (a b : Bool) → (a && b) ≡ (b && a)
and-swap true true = refl
and-swap true false = refl
and-swap false true = refl
and-swap false false = refl

-- the sets when the slots before a and those after b know of each other
pub passed_test : (before after newer given : List Slots) (a b : ℕ) (earlier later : Slots) → AreMirrored before after → a < length before → b < length before → length after ≡ length before → length newer ≡ length before → length given ≡ length after
    → earlier ≡ finset.insert (slots_at before a) a → later ≡ finset.insert (slots_at after b) b
    → ((y : ℕ) → y < length before → slots_at newer y ≡ changed (λ s. finset.union s earlier) before later y)
    → ((x : ℕ) → x < length after → slots_at given x ≡ changed (λ s. finset.union s later) after earlier x)
    → IsPassedOn before newer a b × AreMirrored newer given
passed_test before after newer given a b earlier later mirror few fits same len more is_earlier is_later joined joined_after = (passed, mirrored)
  where
    ahead : (x y : ℕ) → has newer x y ≡ (has before x y || (finset.contains earlier x && finset.contains later y))
    ahead = joined_test before newer later earlier len (later_inside before after b later mirror fits is_later) joined

    behind : (y x : ℕ) → has given y x ≡ (has after y x || (finset.contains later y && finset.contains earlier x))
    behind = joined_test after given earlier later more (earlier_inside before after a earlier mirror (omega arith) is_earlier) joined_after

    to_a : (x : ℕ) → finset.contains earlier x ≡ ((x == a) || has before x a)
    to_a x = ap (λ s. finset.contains s x) is_earlier ∙ has-insert (slots_at before a) a x

    from_b : (y : ℕ) → finset.contains later y ≡ ((y == b) || has before b y)
    from_b y = ap (λ s. finset.contains s y) is_later ∙ has-insert (slots_at after b) b y ∙ ap (λ t. (y == b) || t) (mirror b y)

    passed : IsPassedOn before newer a b
    passed x y =
        ahead x y
        ∙ ap (λ t. has before x y || (t && finset.contains later y)) (to_a x)
        ∙ ap (λ t. has before x y || (((x == a) || has before x a) && t)) (from_b y)

    mirrored : AreMirrored newer given
    mirrored x y =
        behind y x
        ∙ ap (λ t. t || (finset.contains later y && finset.contains earlier x)) (mirror x y)
        ∙ ap (λ t. has before x y || t) (and-swap (finset.contains later y) (finset.contains earlier x))
        ∙ sym (ahead x y)

kept_or : (r t : Bool) → (t ≡ true → r ≡ true) → r ≡ (r || t)
kept_or true t h = refl
kept_or false true h = h refl
kept_or false false h = refl

-- where a precedes b already the masks have all that is passed on
pub known_passes : (pairs : List Pair) (before : List Slots) (a b : ℕ) → ((x y : ℕ) → IsTrue (has before x y) ↔ Precedes pairs x y) → has before a b ≡ true → IsPassedOn before before a b
known_passes pairs before a b closure known x y = kept_or _ _ (λ h. let parts = and_parts _ _ h in (closure x y).1 (from_x (or_cases _ _ parts.0) (to_y (or_cases _ _ parts.1))))
  where
    to_y : ((y == b) ≡ true) ⊎ (has before b y ≡ true) → Precedes pairs a y
    to_y (inl e) = subst (λ (k : ℕ). Precedes pairs a k) (sym (eqb-true y b e)) ((closure a b).0 known)
    to_y (inr k) = Precedes-join ((closure a b).0 known) ((closure b y).0 k)

    from_x : ((x == a) ≡ true) ⊎ (has before x a ≡ true) → Precedes pairs a y → Precedes pairs x y
    from_x (inl e) k = subst (λ (w : ℕ). Precedes pairs w y) (sym (eqb-true x a e)) k
    from_x (inr h) k = Precedes-join ((closure x a).0 h) k

-- ---- the pairs of a slot go

-- slot a is in no set any more, and the sets are else as they were
abbrev pub IsLost : List Slots → List Slots → ℕ → Type 0
IsLost old new a = (x y : ℕ) → has new x y ≡ (not (x == a) && has old x y)

lost_pick : (t c m : Bool) → (t ≡ true → c ≡ false → m ≡ false) → cond c (not t && m) m ≡ (not t && m)
lost_pick t true m h = refl
lost_pick true false m h = h refl refl
lost_pick false false m h = refl

-- where all sets with slot a are of members, none has it when each member's lost it
pub lost_test : (old new : List Slots) (members : Slots) (a : ℕ) → length new ≡ length old → ((y : ℕ) → has old a y ≡ true → finset.contains members y ≡ true) → ((y : ℕ) → y < length old → slots_at new y ≡ changed (λ s. finset.remove s a) old members y) → IsLost old new a
lost_test old new members a len all lost x y = elim (cases_lt y (length old)) [
  | inl below ↦
      let c = finset.contains members y in
      let m = has old x y in
      ap (λ s. finset.contains s x) (lost y below)
      ∙ cond_has c (finset.remove (slots_at old y) a) (slots_at old y) x
      ∙ ap (λ t. cond c t m) (has-remove (slots_at old y) a x)
      ∙ lost_pick (x == a) c m (λ same out. ap (λ k. has old k y) (eqb-true x a same) ∙ false_from_ne_true _ (λ there. both_ways _ out (all y there)))
  | inr past ↦ none_past new x y (omega arith) ∙ sym (and_right (not (x == a)) (has old x y) (none_past old x y past))
]

-- the slots that a precedes are none any more
pub mirror_lost : (before newer after : List Slots) (a : ℕ) → a < length after → AreMirrored before after → IsLost before newer a → AreMirrored newer (set after a finset.empty)
mirror_lost before newer after a fits mirror lost x y = elim (cases_eq x a) [
  | inl same ↦
      ap (λ k. has (set after a finset.empty) y k) same
      ∙ ap (λ s. finset.contains s y) (get_or-set_same after a finset.empty finset.empty fits)
      ∙ finset.contains-empty nat_cmp y
      ∙ sym (lost x y ∙ ap (λ t. not t && has before x y) (eq-eqb x a same))
  | inr other ↦
      ap (λ s. finset.contains s y) (get_or-set_other after a x finset.empty finset.empty other)
      ∙ mirror x y
      ∙ sym (lost x y ∙ ap (λ t. not t && has before x y) (ne_eqb x a other))
]

-- ---- pairs of slots, no two the same

pub slots_of_recorded : (n : ℕ) (pairs : List Pair) → AreOfSlots n pairs → (x y : ℕ) → is_recorded pairs x y ≡ true → (x < n) × (y < n)
slots_of_recorded n [] all x y h = absurd (false≢true h)
slots_of_recorded n (p ∷ pairs) all x y h = elim (or_cases _ _ h) [
  | inl here ↦ let parts = and_parts (p.from == x) (p.to == y) here in (subst (λ (k : ℕ). k < n) (eqb-true p.from x parts.0) all.0.0, subst (λ (k : ℕ). k < n) (eqb-true p.to y parts.1) all.0.1)
  | inr later ↦ slots_of_recorded n pairs all.1 x y later
]

-- the cell of a pair
abbrev place_of : ℕ → Pair → ℕ
place_of n p = p.to * n + p.from

other_places : (n : ℕ) (p : Pair) (pairs : List Pair) → p.from < n → AreOfSlots n pairs → is_recorded pairs p.from p.to ≡ false → AllByRecursion (λ y. eqb (place_of n p) y ≡ false) (map (place_of n) pairs)
other_places n p [] few all h = tt
other_places n p (q ∷ pairs) few all h =
    let parts = or_parts _ _ h in
    let other : place_of n p ≢ place_of n q = λ e.
    let same = same_from_place p.to p.from q.to q.from n few all.0.0 e in
    both_ways _ parts.0 (and_from _ _ (eq-eqb q.from p.from (sym same.1)) (eq-eqb q.to p.to (sym same.0))) in
    (ne_eqb (place_of n p) (place_of n q) other, other_places n p pairs few all.1 parts.1)

distinct_places : (n : ℕ) (pairs : List Pair) → AreOfSlots n pairs → AreApart pairs → IsDistinct eqb (map (place_of n) pairs)
unfolding IsDistinct
distinct_places n [] all apart = tt
distinct_places n (p ∷ pairs) all apart = (other_places n p pairs all.0.0 all.1 apart.0, distinct_places n pairs all.1 apart.1)

places_below : (n : ℕ) (pairs : List Pair) → AreOfSlots n pairs → (q : ℕ) → list_any (eqb q) (map (place_of n) pairs) ≡ true → q < n * n
places_below n [] all q h = absurd (false≢true h)
places_below n (p ∷ pairs) all q h = elim (or_cases _ _ h) [
  | inl here ↦ let e = eqb-true q (place_of n p) here in let fits = mul-add-lt p.to n p.from n all.0.1 all.0.0 in omega (arith, e, fits)
  | inr later ↦ places_below n pairs all.1 q later
]

-- There are no more pairs than cells.
few_pairs : (n : ℕ) (pairs : List Pair) → AreOfSlots n pairs → AreApart pairs → length pairs ≤ n * n
few_pairs n pairs all apart = let few = length-le_from_distinct_below (map (place_of n) pairs) (n * n) (distinct_places n pairs all apart) (places_below n pairs all) in omega (arith, few, length-map pairs (place_of n))

same_test : (x y : ℕ) → (x == y) ≡ (y == x)
same_test x y = grind (arith, nat_tests)

-- the pairs with one more
abbrev pub with_pair : List Pair → ℕ → ℕ → ℕ → List Pair
with_pair pairs a b node = pairs ++ record { from = a; to = b; node = node } ∷ []

or-swap : (a b : Bool) → (a || (b || false)) ≡ (b || a)
or-swap true true = refl
or-swap true false = refl
or-swap false true = refl
or-swap false false = refl

pub adds-with_pair : (pairs : List Pair) (a b node : ℕ) → Adds pairs (with_pair pairs a b node) a b
adds-with_pair pairs a b node x y =
    list_any-append (joins x y) pairs (record { from = a; to = b; node = node } ∷ [])
    ∙ or-swap (is_recorded pairs x y) ((a == x) && (b == y))
    ∙ ap (λ t. (t && (b == y)) || is_recorded pairs x y) (same_test a x)
    ∙ ap (λ t. ((x == a) && t) || is_recorded pairs x y) (same_test b y)

slots-with_pair : (n : ℕ) (pairs : List Pair) (a b node : ℕ) → AreOfSlots n pairs → a < n → b < n → AreOfSlots n (with_pair pairs a b node)
slots-with_pair n [] a b node all few fits = ((few, fits), tt)
slots-with_pair n (p ∷ pairs) a b node all few fits = (all.0, slots-with_pair n pairs a b node all.1 few fits)

new_differs : (pairs : List Pair) (a b node x y : ℕ) → is_recorded pairs x y ≡ false → ((x == a) && (y == b)) ≡ false → is_recorded (with_pair pairs a b node) x y ≡ false
new_differs pairs a b node x y h k = adds-with_pair pairs a b node x y ∙ or_from _ _ k h

apart-with_pair : (pairs : List Pair) (a b node : ℕ) → AreApart pairs → is_recorded pairs a b ≡ false → AreApart (with_pair pairs a b node)
apart-with_pair [] a b node apart h = (refl, tt)
apart-with_pair (p ∷ pairs) a b node apart h =
    let parts = or_parts _ _ h in
    (new_differs pairs a b node p.from p.to apart.0 parts.0, apart-with_pair pairs a b node apart.1 parts.1)

-- where a pair is new, there is room for it
pub room_for_pair : (n : ℕ) (pairs : List Pair) (a b : ℕ) → AreOfSlots n pairs → AreApart pairs → a < n → b < n → is_recorded pairs a b ≡ false → length pairs < n * n
room_for_pair n pairs a b all apart few fits new =
    let more = few_pairs n (with_pair pairs a b 0) (slots-with_pair n pairs a b 0 all few fits) (apart-with_pair pairs a b 0 apart new) in
    omega (arith, more, length-append pairs (record { from = a; to = b; node = 0 } ∷ []))

-- ---- nodes

list_any-find : (test : Pair → Bool) (xs : List Pair) → list_any test xs ≡ is_some (find test xs)
list_any-find test [] = refl
list_any-find test (x ∷ xs) = elim (test x) as (λ b. (b || list_any test xs) ≡ is_some (cond b (Some x) (find test xs))) [ true ↦ refl | false ↦ list_any-find test xs ]

found_first : (o r : Option Pair) → is_some o ≡ true → option_or o r ≡ o
found_first None r h = absurd (false≢true h)
found_first (Some p) r h = refl

found_second : (o r : Option Pair) → is_some o ≡ false → option_or o r ≡ r
found_second None r h = refl
found_second (Some p) r h = absurd (false≢true (sym h))

node_kept : (pairs : List Pair) (a b node x y : ℕ) → is_recorded pairs x y ≡ true → node_of (with_pair pairs a b node) x y ≡ node_of pairs x y
node_kept pairs a b node x y h =
    ap (option_map (λ p. p.node)) (find-append (joins x y) pairs (record { from = a; to = b; node = node } ∷ []) ∙ found_first (find (joins x y) pairs) _ (sym (list_any-find (joins x y) pairs) ∙ h))

node_new : (pairs : List Pair) (a b node : ℕ) → is_recorded pairs a b ≡ false → node_of (with_pair pairs a b node) a b ≡ Some node
node_new pairs a b node h =
    ap (option_map (λ p. p.node)) (find-append (joins a b) pairs (record { from = a; to = b; node = node } ∷ []) ∙ found_second (find (joins a b) pairs) _ (sym (list_any-find (joins a b) pairs) ∙ h))
    ∙ rw (eq-eqb a a refl, eq-eqb b b refl) refl

pub node_unknown : (pairs : List Pair) (a b : ℕ) → is_recorded pairs a b ≡ false → node_of pairs a b ≡ None
node_unknown pairs a b h = none_found (find (joins a b) pairs) (sym (list_any-find (joins a b) pairs) ∙ h)
  where
    none_found : (o : Option Pair) → is_some o ≡ false → option_map (λ p. p.node) o ≡ None
    none_found None k = refl
    none_found (Some p) k = absurd (false≢true (sym k))

-- ---- the pairs of a slot go

-- the test that keeps a pair
abbrev pub stays : ℕ → Pair → Bool
stays a p = not ((p.from == a) || (p.to == a))

stays_at : (a x y : ℕ) (p : Pair) → joins x y p ≡ true → stays a p ≡ not ((x == a) || (y == a))
stays_at a x y p h = let parts = and_parts (p.from == x) (p.to == y) h in ap (λ k. not ((k == a) || (p.to == a))) (eqb-true p.from x parts.0) ∙ ap (λ k. not ((x == a) || (k == a))) (eqb-true p.to y parts.1)

pub drops-retired : (pairs : List Pair) (a : ℕ) → Drops pairs (retired pairs a) a
drops-retired pairs a x y = any-filter_same (joins x y) (stays a) (not ((x == a) || (y == a))) (stays_at a x y) pairs

filter_slots : (n : ℕ) (keep : Pair → Bool) (pairs : List Pair) → AreOfSlots n pairs → AreOfSlots n (filter keep pairs)
filter_slots n keep [] all = tt
filter_slots n keep (p ∷ pairs) all = elim (keep p) as (λ t. AreOfSlots n (cond t (p ∷ filter keep pairs) (filter keep pairs))) [ true ↦ (all.0, filter_slots n keep pairs all.1) | false ↦ filter_slots n keep pairs all.1 ]

still_new : (keep : Pair → Bool) (pairs : List Pair) (x y : ℕ) → is_recorded pairs x y ≡ false → is_recorded (filter keep pairs) x y ≡ false
still_new keep [] x y h = refl
still_new keep (p ∷ pairs) x y h =
    let parts = or_parts _ _ h in
    elim (keep p) as (λ t. is_recorded (cond t (p ∷ filter keep pairs) (filter keep pairs)) x y ≡ false) [
      | true ↦ or_from _ _ parts.0 (still_new keep pairs x y parts.1)
      | false ↦ still_new keep pairs x y parts.1
    ]

filter_apart : (keep : Pair → Bool) (pairs : List Pair) → AreApart pairs → AreApart (filter keep pairs)
filter_apart keep [] apart = tt
filter_apart keep (p ∷ pairs) apart = elim (keep p) as (λ t. AreApart (cond t (p ∷ filter keep pairs) (filter keep pairs))) [
  | true ↦ (still_new keep pairs p.from p.to apart.0, filter_apart keep pairs apart.1)
  | false ↦ filter_apart keep pairs apart.1
]

find_kept : (test keep : Pair → Bool) → ((p : Pair) → test p ≡ true → keep p ≡ true) → (pairs : List Pair) → find test (filter keep pairs) ≡ find test pairs
find_kept test keep h [] = refl
find_kept test keep h (p ∷ pairs) = elim (cases_Bool (test p)) [
  | inl passes ↦ rw (h p passes, passes) refl
  | inr fails ↦ elim (cases_Bool (keep p)) [
    | inl kept ↦ rw (kept, fails) (find_kept test keep h pairs)
    | inr gone ↦ rw (gone, fails) (find_kept test keep h pairs)
  ]
]

node_stays : (pairs : List Pair) (a x y : ℕ) → not ((x == a) || (y == a)) ≡ true → node_of (retired pairs a) x y ≡ node_of pairs x y
node_stays pairs a x y h = ap (option_map (λ p. p.node)) (find_kept (joins x y) (stays a) (λ p passes. stays_at a x y p passes ∙ h) pairs)

-- the sets without a slot are the direct predecessors that are left
drop_test : (p q t : Bool) → (q ≡ true → t ≡ false) → (not p && t) ≡ (not (p || q) && t)
drop_test true q t h = refl
drop_test false true t h = h refl
drop_test false false t h = refl

-- nothing was recorded to come before a
abbrev NoneRecorded : List Pair → ℕ → Type 0
NoneRecorded pairs a = (x : ℕ) → is_recorded pairs x a ≡ false

none_recorded : (pairs : List Pair) (a : ℕ) → ((x : ℕ) → ¬ (Precedes pairs x a)) → NoneRecorded pairs a
none_recorded pairs a none x = false_from_ne_true _ (λ h. none x (by_pair h))

direct-retired : (pairs : List Pair) (old new : List Slots) (a : ℕ) → ((x y : ℕ) → has old x y ≡ is_recorded pairs x y) → NoneRecorded pairs a → IsLost old new a → (x y : ℕ) → has new x y ≡ is_recorded (retired pairs a) x y
direct-retired pairs old new a same none lost x y =
    lost x y
    ∙ ap (λ t. not (x == a) && t) (same x y)
    ∙ drop_test (x == a) (y == a) (is_recorded pairs x y) (λ e. ap (is_recorded pairs x) (eqb-true y a e) ∙ none x)
    ∙ sym (drops-retired pairs a x y)

-- where no pair is of a, all stay
all_stay : (pairs : List Pair) (a : ℕ) → NoneRecorded pairs a → ((y : ℕ) → is_recorded pairs a y ≡ false) → retired pairs a ≡ pairs
all_stay [] a none first = refl
all_stay (p ∷ pairs) a none first =
    let own = eq-eqb p.from p.from refl in
    let from : (p.from == a) ≡ false = false_from_ne_true _ (λ e. both_ways _ (or_parts _ _ (first p.to)).0 (and_from _ _ e (eq-eqb p.to p.to refl))) in
    let to : (p.to == a) ≡ false = false_from_ne_true _ (λ e. both_ways _ (or_parts _ _ (none p.from)).0 (and_from _ _ own e)) in
    let rest = all_stay pairs a (λ x. (or_parts _ _ (none x)).1) (λ y. (or_parts _ _ (first y)).1) in
    rw (from, to) (ap (λ ps. p ∷ ps) rest)

-- the pairs of a slot that precedes none, and that none precedes
pub none_retired : (pairs : List Pair) (before after : List Slots) (a : ℕ) → ((x y : ℕ) → IsTrue (has before x y) ↔ Precedes pairs x y) → AreMirrored before after → HasNoneFrom (slots_at after a) 0 → ((x : ℕ) → ¬ (Precedes pairs x a)) → retired pairs a ≡ pairs
none_retired pairs before after a closure mirror empty none = all_stay pairs a (none_recorded pairs a none)
    (λ y. false_from_ne_true _ (λ h. both_ways _ (sym (mirror a y) ∙ empty y (omega arith)) ((closure a y).1 (by_pair h))))

-- ---- what each call keeps

-- the cell of each pair when a pair joins
nodes_linked : (n : ℕ) (pairs : List Pair) (cells : List ℕ) (a b node : ℕ) → a < n → b < n → AreOfSlots n pairs → b * n + a < length cells → ((x y : ℕ) → is_recorded pairs x y ≡ true → node_of pairs x y ≡ Some (get_or cells (y * n + x) 0)) → is_recorded pairs a b ≡ false
    → (x y : ℕ) → (((x == a) && (y == b)) ≡ true) ⊎ (is_recorded pairs x y ≡ true) → node_of (with_pair pairs a b node) x y ≡ Some (get_or (set cells (b * n + a) node) (y * n + x) 0)
nodes_linked n pairs cells a b node few fits all place nodes new x y (inl here) =
    let parts = and_parts (x == a) (y == b) here in
    let at_a = eqb-true x a parts.0 in
    let at_b = eqb-true y b parts.1 in
    rw (at_a, at_b, node_new pairs a b node new, get_or-set_same cells (b * n + a) node 0 place) refl
nodes_linked n pairs cells a b node few fits all place nodes new x y (inr was) =
    let slots = slots_of_recorded n pairs all x y was in
    let other : y * n + x ≢ b * n + a = λ e.
    let same = same_from_place y x b a n slots.0 few e in
    both_ways _ new (ap (λ k. is_recorded pairs k b) (sym same.1) ∙ ap (is_recorded pairs x) (sym same.0) ∙ was) in
    node_kept pairs a b node x y was ∙ nodes x y was ∙ ap Some (sym (get_or-set_other cells (b * n + a) (y * n + x) node 0 other))

pub kept-link : (n room more : ℕ) (pairs : List Pair) (earlier : List Slots) (cells : List ℕ) (before after newer later : List Slots) (a b node : ℕ) → IsKept n room pairs earlier cells before after → n * n ≤ more → a < n → b < n → a ≢ b → ¬ (Precedes pairs b a) → is_recorded pairs a b ≡ false
    → length newer ≡ length before → length later ≡ length after → IsPassedOn before newer a b → AreMirrored newer later
    → IsKept n more (with_pair pairs a b node) (set earlier b (finset.insert (slots_at earlier b) a)) (set cells (b * n + a) node) newer later
kept-link n room more pairs earlier cells before after newer later a b node kept enough few fits apart forward new len len_later passed mirror =
    let adds = adds-with_pair pairs a b node in
    let in_sets : b < length earlier = omega (arith, kept.sets) in
    let place : b * n + a < length cells = subst (λ (m : ℕ). b * n + a < m) (sym kept.table) (mul-add-lt b n a n fits few) in
    record {
      some = kept.some;
      few = kept.few;
      room = enough;
      sets = length-set earlier b _ ∙ kept.sets;
      table = length-set cells (b * n + a) node ∙ kept.table;
      masks = len ∙ kept.masks;
      mirrors = len_later ∙ kept.mirrors;
      slots = slots-with_pair n pairs a b node kept.slots few fits;
      apart = apart-with_pair pairs a b node kept.apart new;
      direct = λ x y. has-direct earlier a b in_sets x y ∙ ap (λ t. ((x == a) && (y == b)) || t) (kept.direct x y) ∙ sym (adds x y);
      nodes = λ x y h. nodes_linked n pairs cells a b node few fits kept.slots place kept.nodes new x y (or_cases _ _ (sym (adds x y) ∙ h));
      closure = masks_added pairs (with_pair pairs a b node) a b adds (has before) (has newer) kept.closure passed;
      mirror = mirror;
      no_cycle = no_cycle-added pairs (with_pair pairs a b node) a b adds apart forward kept.no_cycle;
    }

pub kept-retire : (n room more : ℕ) (pairs : List Pair) (earlier : List Slots) (cells : List ℕ) (before after smaller newer : List Slots) (a : ℕ) → IsKept n room pairs earlier cells before after → n * n ≤ more → ((x : ℕ) → ¬ (Precedes pairs x a)) → a < n
    → length smaller ≡ length earlier → length newer ≡ length before → IsLost earlier smaller a → IsLost before newer a → IsKept n more (retired pairs a) smaller cells newer (set after a finset.empty)
kept-retire n room more pairs earlier cells before after smaller newer a kept enough none few len len_newer gone lost =
    let drops = drops-retired pairs a in
    record {
      some = kept.some;
      few = kept.few;
      room = enough;
      sets = len ∙ kept.sets;
      table = kept.table;
      masks = len_newer ∙ kept.masks;
      mirrors = length-set after a finset.empty ∙ kept.mirrors;
      slots = filter_slots n (stays a) pairs kept.slots;
      apart = filter_apart (stays a) pairs kept.apart;
      direct = direct-retired pairs earlier smaller a kept.direct (none_recorded pairs a none) gone;
      nodes = λ x y h. let parts = and_parts _ _ (sym (drops x y) ∙ h) in node_stays pairs a x y parts.0 ∙ kept.nodes x y parts.1;
      closure = masks_dropped pairs (retired pairs a) a drops (λ x h. none x (by_pair h)) (has before) (has newer) kept.closure lost;
      mirror = mirror_lost before newer after a (omega (arith, kept.mirrors)) kept.mirror lost;
      no_cycle = λ x h. kept.no_cycle x (Precedes-fewer pairs (retired pairs a) a drops h);
    }

-- ---- an order without pairs

no_sets : (n y : ℕ) → slots_at (replicate n finset.empty) y ≡ finset.empty
no_sets n y = elim (cases_lt y n) [
  | inl below ↦ get_or-replicate n y finset.empty finset.empty below
  | inr past ↦ get_or_past (replicate n finset.empty) y finset.empty (omega (arith, length-replicate n (finset.empty {R = nat_cmp})))
]

none_at_first : (n x y : ℕ) → finset.contains (slots_at (replicate n finset.empty) y) x ≡ false
none_at_first n x y = ap (λ s. finset.contains s x) (no_sets n y) ∙ finset.contains-empty nat_cmp x

no_chain : {a b : ℕ} → Precedes [] a b → ⊥
no_chain (by_pair h) = false≢true h
no_chain (by_chain h k) = false≢true h

pub kept_at_first : (n room : ℕ) (cells : List ℕ) → 0 < n → n ≤ 256 → n * n ≤ room → length cells ≡ n * n → IsKept n room [] (replicate n finset.empty) cells (replicate n finset.empty) (replicate n finset.empty)
kept_at_first n room cells some few enough table = record {
  some = some;
  few = few;
  room = enough;
  sets = length-replicate n (finset.empty {R = nat_cmp});
  table = table;
  masks = length-replicate n (finset.empty {R = nat_cmp});
  mirrors = length-replicate n (finset.empty {R = nat_cmp});
  slots = tt;
  apart = tt;
  direct = λ x y. none_at_first n x y;
  nodes = λ x y h. absurd (false≢true h);
  closure = λ x y. ((λ h. absurd (both_ways _ (none_at_first n x y) h)), (λ h. absurd (no_chain h)));
  mirror = λ x y. none_at_first n y x ∙ sym (none_at_first n x y);
  no_cycle = λ x h. no_chain h;
}

-- ---- from what the calls say

-- a set that was read is the set of its slot
pub read_set : (sets : List Slots) (b : ℕ) (s : Slots) → b < length sets → s ≡ get_or sets b s → s ≡ slots_at sets b
read_set sets b s h e = e ∙ get_or_default sets b s finset.empty h

-- a copy of a set that was read, with one slot more
pub grown : (sets : List Slots) (a : ℕ) (read copied larger : Slots) → a < length sets → copied ≡ get_or sets a read → larger ≡ finset.insert copied a → larger ≡ finset.insert (slots_at sets a) a
grown sets a read copied larger h same more = more ∙ ap (λ s. finset.insert s a) (same ∙ get_or_default sets a read finset.empty h)

-- what a set that was read has is recorded
pub recorded_there : (n room : ℕ) (pairs : List Pair) (earlier : List Slots) (cells : List ℕ) (before after : List Slots) (b x : ℕ) (s : Slots) (t : Bool) → IsKept n room pairs earlier cells before after → b < n → s ≡ get_or earlier b s → finset.contains s x ≡ t → is_recorded pairs x b ≡ t
recorded_there n room pairs earlier cells before after b x s t kept fits read e = sym (kept.direct x b) ∙ sym (ap (λ m. finset.contains m x) (read_set earlier b s (omega (arith, kept.sets)) read)) ∙ e

-- ---- from what link says

-- the masks that come back of a loan of all of them
pub after_pass : (before after lent given new_before new_after newer later : List Slots) (a b : ℕ) → lent ≡ before → given ≡ after → length new_before ≡ length lent → length new_after ≡ length given → IsPassedOn lent new_before a b → AreMirrored new_before new_after → newer ≡ new_before → later ≡ new_after
    → ((length newer ≡ length before) × (length later ≡ length after)) × (IsPassedOn before newer a b × AreMirrored newer later)
after_pass before after lent given new_before new_after newer later a b is_before is_after len len_after passed mirror is js = (
  (ap length is ∙ len ∙ ap length is_before, ap length js ∙ len_after ∙ ap length is_after),
  (
    subst (λ (m : List Slots). IsPassedOn before m a b) (sym is) (subst (λ (o : List Slots). IsPassedOn o new_before a b) is_before passed),
    subst (λ (m : List Slots). AreMirrored newer m) (sym js) (subst (λ (m : List Slots). AreMirrored m new_after) (sym is) mirror),
  ),
)

pub after_link : (n room more : ℕ) (pairs : List Pair) (earlier : List Slots) (cells : List ℕ) (before after : List Slots) (a b node : ℕ) (was s larger : Slots) (longer : List Pair) (newer later : List Slots)
    → IsKept n room pairs earlier cells before after → more ≡ room → a < n → b < n → a ≢ b → ¬ (Precedes pairs b a)
    → was ≡ get_or earlier b was → finset.contains was a ≡ false → longer ≡ with_pair pairs a b node
    → s ≡ get_or earlier b s → larger ≡ finset.insert s a
    → ((length newer ≡ length before) × (length later ≡ length after)) × (IsPassedOn before newer a b × AreMirrored newer later)
    → IsKept n more longer (set earlier b larger) (set cells (b * n + a) node) newer later
after_link n room more pairs earlier cells before after a b node was s larger longer newer later kept enough few fits apart forward first lacks one_more read added passed =
    let in_place : b < length earlier = omega (arith, kept.sets) in
    let unrecorded : is_recorded pairs a b ≡ false = recorded_there n room pairs earlier cells before after b a was false kept fits first lacks in
    let added_there : larger ≡ finset.insert (slots_at earlier b) a = added ∙ ap (λ t. finset.insert t a) (read_set earlier b s in_place read) in
    subst (λ (t : Slots). IsKept n more longer (set earlier b t) (set cells (b * n + a) node) newer later) (sym added_there)
    (subst (λ (ps : List Pair). IsKept n more ps (set earlier b (finset.insert (slots_at earlier b) a)) (set cells (b * n + a) node) newer later) (sym one_more)
    (kept-link n room more pairs earlier cells before after newer later a b node kept (omega (arith, kept.room)) few fits apart forward unrecorded passed.0.0 passed.0.1 passed.1.0 passed.1.1))

-- where a precedes b already the masks stay
pub known_stays : (n room : ℕ) (pairs : List Pair) (earlier : List Slots) (cells : List ℕ) (before after : List Slots) (a b : ℕ) (s : Slots) → IsKept n room pairs earlier cells before after → b < n → s ≡ get_or before b s → finset.contains s a ≡ true
    → ((length before ≡ length before) × (length after ≡ length after)) × (IsPassedOn before before a b × AreMirrored before after)
known_stays n room pairs earlier cells before after a b s kept fits read there =
    let known : has before a b ≡ true = sym (ap (λ m. finset.contains m a) (read_set before b s (omega (arith, kept.masks)) read)) ∙ there in
    ((refl, refl), (known_passes pairs before a b kept.closure known, kept.mirror))

-- ---- from what retire says

is_none : {P : Type 0} (r : Option ℕ) → is_some r ≡ false → IfNone r P → P
is_none None h p = p
is_none (Some a) h p = absurd (false≢true (sym h))

-- where a precedes nothing all pairs stay
pub retired_alone : (n room : ℕ) (pairs : List Pair) (earlier : List Slots) (cells : List ℕ) (before after : List Slots) (a : ℕ) (s : Slots) (r : Option ℕ) → IsKept n room pairs earlier cells before after → a < n → s ≡ get_or after a s → IfNone r (HasNoneFrom s 0) → is_some r ≡ false → ((x : ℕ) → ¬ (Precedes pairs x a)) → pairs ≡ retired pairs a
retired_alone n room pairs earlier cells before after a s r kept few read none empty first =
    let is = read_set after a s (omega (arith, kept.mirrors)) read in
    sym (none_retired pairs before after a kept.closure kept.mirror (subst (λ (t : Slots). HasNoneFrom t 0) is (is_none r empty none)) first)

-- the slots that a precedes are slots
pub later_slots : (n room : ℕ) (pairs : List Pair) (earlier : List Slots) (cells : List ℕ) (before after : List Slots) (a : ℕ) (s members : Slots) → IsKept n room pairs earlier cells before after → a < n → s ≡ get_or after a s → members ≡ s → HasAllBelow members n
later_slots n room pairs earlier cells before after a s members kept few read is y h =
    let there : has before a y ≡ true = sym (kept.mirror a y) ∙ sym (ap (λ t. finset.contains t y) (is ∙ read_set after a s (omega (arith, kept.mirrors)) read)) ∙ h in
    let below = inside_none before a y there in
    omega (arith, below, kept.masks)

-- the sets that come back of a loan of all of them, in which those of members lost a slot
lost_sets : (old lent new newer : List Slots) (members : Slots) (a : ℕ) → lent ≡ old → length new ≡ length lent → ((y : ℕ) → y < length lent → slots_at new y ≡ changed (λ s. finset.remove s a) lent members y) → newer ≡ new → ((y : ℕ) → has old a y ≡ true → finset.contains members y ≡ true)
    → (length newer ≡ length old) × IsLost old newer a
lost_sets old lent new newer members a lent_is len lost is all =
    let same : (length new ≡ length old) × ((y : ℕ) → y < length old → slots_at new y ≡ changed (λ s. finset.remove s a) old members y) =
    subst (λ (o : List Slots). (length new ≡ length o) × ((y : ℕ) → y < length o → slots_at new y ≡ changed (λ s. finset.remove s a) o members y)) lent_is (len, lost) in
    subst (λ (m : List Slots). (length m ≡ length old) × IsLost old m a) (sym is) (same.0, lost_test old new members a same.0 all same.1)

pub after_retire : (n room more : ℕ) (pairs fewer : List Pair) (earlier : List Slots) (cells : List ℕ) (before after lent new smaller given changed_before newer : List Slots) (a : ℕ) (s members last : Slots)
    → IsKept n room pairs earlier cells before after → more ≡ room → ((x : ℕ) → ¬ (Precedes pairs x a)) → a < n → fewer ≡ retired pairs a
    → s ≡ get_or after a s → members ≡ s → last ≡ finset.empty
    → lent ≡ earlier → length new ≡ length lent → ((y : ℕ) → y < length lent → slots_at new y ≡ changed (λ s. finset.remove s a) lent members y) → smaller ≡ new
    → given ≡ before → length changed_before ≡ length given → ((y : ℕ) → y < length given → slots_at changed_before y ≡ changed (λ s. finset.remove s a) given members y) → newer ≡ changed_before
    → IsKept n more fewer smaller cells newer (set after a last)
after_retire n room more pairs fewer earlier cells before after lent new smaller given changed_before newer a s members last kept enough none few gone read is emptied lent_is len lost smaller_is given_is len_before lost_before newer_is =
    let members_are : members ≡ slots_at after a = is ∙ read_set after a s (omega (arith, kept.mirrors)) read in
    let all : (y : ℕ) → has before a y ≡ true → finset.contains members y ≡ true = λ y h. ap (λ t. finset.contains t y) members_are ∙ kept.mirror a y ∙ h in
    let direct = lost_sets earlier lent new smaller members a lent_is len lost smaller_is (λ y h. all y ((kept.closure a y).1 (by_pair (sym (kept.direct a y) ∙ h)))) in
    let masks = lost_sets before given changed_before newer members a given_is len_before lost_before newer_is all in
    subst (λ (t : Slots). IsKept n more fewer smaller cells newer (set after a t)) (sym emptied)
    (subst (λ (ps : List Pair). IsKept n more ps smaller cells newer (set after a finset.empty)) (sym gone)
    (kept-retire n room more pairs earlier cells before after smaller newer a kept (omega (arith, kept.room)) none few direct.0 masks.0 direct.1 masks.1))

-- ---- from what next_before says

pub next_is_slot : (n room : ℕ) (pairs : List Pair) (earlier : List Slots) (cells : List ℕ) (before after : List Slots) (b from : ℕ) (s : Slots) (r : Option ℕ) → IsKept n room pairs earlier cells before after → b < n → s ≡ get_or earlier b s → IfSome r (IsLeastFrom s from) → IfSome r (λ a. a < n)
next_is_slot n room pairs earlier cells before after b from s None kept fits read h = h
next_is_slot n room pairs earlier cells before after b from s (Some a) kept fits read h = (slots_of_recorded n pairs kept.slots a b (recorded_there n room pairs earlier cells before after b a s true kept fits read h.found)).0

pub next_is_least : (n room : ℕ) (pairs : List Pair) (earlier : List Slots) (cells : List ℕ) (before after : List Slots) (b from : ℕ) (s : Slots) (r : Option ℕ) → IsKept n room pairs earlier cells before after → b < n → s ≡ get_or earlier b s → IfSome r (IsLeastFrom s from) → IfSome r (IsNextBefore pairs b from)
next_is_least n room pairs earlier cells before after b from s None kept fits read h = h
next_is_least n room pairs earlier cells before after b from s (Some a) kept fits read h = record {
  recorded = recorded_there n room pairs earlier cells before after b a s true kept fits read h.found;
  at_or_above = h.at_or_above;
  least = λ x at there. elim (cases_lt x a) [
    | inl below ↦ absurd (both_ways _ (recorded_there n room pairs earlier cells before after b x s false kept fits read (h.least x at below)) there)
    | inr above ↦ above
  ];
}

pub none_is_next : (n room : ℕ) (pairs : List Pair) (earlier : List Slots) (cells : List ℕ) (before after : List Slots) (b from : ℕ) (s : Slots) (r : Option ℕ) → IsKept n room pairs earlier cells before after → b < n → s ≡ get_or earlier b s → IfNone r (HasNoneFrom s from) → IfNone r ((x : ℕ) → from ≤ x → ¬ (IsTrue (is_recorded pairs x b)))
none_is_next n room pairs earlier cells before after b from s None kept fits read h = λ x at there. both_ways _ (recorded_there n room pairs earlier cells before after b x s false kept fits read (h x at)) there
none_is_next n room pairs earlier cells before after b from s (Some a) kept fits read h = h

-- Where nothing is recorded before a slot, nothing precedes it.
pub none_precedes : (pairs : List Pair) (b from : ℕ) (r : Option ℕ) → from ≡ 0 → IfNone r ((x : ℕ) → from ≤ x → ¬ (IsTrue (is_recorded pairs x b))) → IfNone r ((x : ℕ) → ¬ (Precedes pairs x b))
none_precedes pairs b from None zero_from h = λ x chained. let last = last_pair chained in h last.0 (omega arith) last.1
none_precedes pairs b from (Some a) zero_from h = h
