-- What is found in a list by looking through it from its end.
use Rattle.std.proofs.Common.{◌≡◌, ℕ, ◌+◌, ◌-◌, ◌<◌, ◌≤◌, Bool, true, false, not, ◌==◌, List, [], ◌∷◌, ◌++◌, length, drop, refl, sym, ap, ◌∙◌, arith, subst, cond, zero, suc, Some, append-nil, length-append, true≢false}
use Rattle.std.specs.List.{position_or_len, slice_get, slice_index_or}
use Rattle.std.proofs.lemmas.Bool.Decides.{eqb_tells}
use Rattle.std.proofs.lemmas.Bool.{eqb-true}
use Rattle.std.proofs.lemmas.Option.{slice_get-get_or}
use Rattle.node_versions.specs.Entries.{Entry, has, IsUnique, rest, AllStop, StopsFrom, StopsToTheEnd}
use Rattle.node_versions.proofs.Lists.{has-append}
use Rattle.node_versions.proofs.Places.{place, place-absent}
use Rattle.node_versions.proofs.LastDone.{longer}
use Rattle.node_versions.proofs.Indexes.{moved}

-- ---- the entry of a version

-- The list goes on behind the part `left`, and there is no entry of the version there.
pub record IsLookedThrough (es left : List Entry) (t : ℕ) : Type 0 where
  pub more : List Entry
  pub list : es ≡ left ++ more
  pub none : has more t ≡ false

pub whole : (es : List Entry) (t : ℕ) → IsLookedThrough es es t
whole es t = record { more = []; list = sym (append-nil es); none = refl }

behind_first : (xs ys : List Entry) (e : Entry) → IsUnique (xs ++ e ∷ ys) → has xs e.version ≡ false
behind_first [] ys e q = refl
behind_first (x ∷ xs) ys e q =
    let r = behind_first xs ys e q.1 in
    let a = has-append xs (e ∷ ys) x.version in
    grind (arith, eqb_tells, r, a, q.0)

place_behind : (xs ys : List Entry) (e : Entry) (t : ℕ) → (e.version == t) ≡ true → has xs t ≡ false → place (xs ++ e ∷ ys) t ≡ length xs
place_behind [] ys e t h k = grind (arith, h)
place_behind (x ∷ xs) ys e t h k = let r = place_behind xs ys e t in grind (arith, h, k, r)

pub look_on : (es left front : List Entry) (e : Entry) (t : ℕ) → IsLookedThrough es left t → left ≡ front ++ e ∷ [] → (e.version == t) ≡ false → IsLookedThrough es front t
look_on es left front e t s k h = record {
  more = e ∷ s.more;
  list = longer es left front s.more e s.list k;
  none = grind (arith, h, s.none);
}

pub found_at : (es left front : List Entry) (e : Entry) (t : ℕ) → IsUnique es → IsLookedThrough es left t → left ≡ front ++ e ∷ [] → (e.version == t) ≡ true → length front ≡ place es t
found_at es left front e t q s k h =
    let list = longer es left front s.more e s.list k in
    let none = behind_first front s.more e (subst IsUnique list q) in
    sym (ap (λ (xs : List Entry). place xs t) list ∙ place_behind front s.more e t h (subst (λ v. has front v ≡ false) (eqb-true e.version t h) none))

pub found_below : (es left front : List Entry) (e : Entry) (t : ℕ) → IsLookedThrough es left t → left ≡ front ++ e ∷ [] → length front < length es
found_below es left front e t s k =
    let list = longer es left front s.more e s.list k in
    omega (arith, ap length list, length-append front (e ∷ s.more))

pub not_found : (es left : List Entry) (t : ℕ) → IsLookedThrough es left t → length left ≡ 0 → length es ≡ place es t
not_found es [] t s none = place-absent es t (ap (λ (xs : List Entry). has xs t) s.list ∙ s.none)
not_found es (x ∷ left) t s none = absurd (omega (arith, none))

-- ---- entries that stop

get_is : (es : List Entry) (k : ℕ) (e d : Entry) → slice_get es k ≡ Some e → slice_index_or es k d ≡ e
get_is [] k e d h = cc
get_is (x ∷ es) zero e d h = grind (arith, h)
get_is (x ∷ es) (suc k) e d h = get_is es k e d h

stop_at : (stops : Entry → Bool) (es : List Entry) (i : ℕ) (e : Entry) → AllStop stops es → slice_get es i ≡ Some e → stops e ≡ true
stop_at stops [] i e a h = cc
stop_at stops (x ∷ es) zero e a h = grind (arith, h, a.0)
stop_at stops (x ∷ es) (suc i) e a h = stop_at stops es i e a.1 h

each_stops : (stops : Entry → Bool) (es : List Entry) → ((i : ℕ) (e : Entry) → slice_get es i ≡ Some e → stops e ≡ true) → AllStop stops es
each_stops stops [] h = tt
each_stops stops (e ∷ es) h = (h 0 e refl, each_stops stops es (λ i d at. h (suc i) d at))

-- the place where entries begin to stop, where behind one that stops all do
pub stops_from_place : (stops : Entry → Bool) (es : List Entry) (i : ℕ) → StopsToTheEnd stops es → StopsFrom stops es i → i ≤ length es → i ≡ position_or_len stops es
stops_from_place stops [] i h from le = omega (arith, le)
stops_from_place stops (e ∷ es) zero h from le = go (stops e) refl
  where
    go : (b : Bool) → stops e ≡ b → 0 ≡ cond (not b) (1 + position_or_len stops es) 0
    go true k = refl
    go false k = absurd (true≢false (sym from.behind.0 ∙ k))
stops_from_place stops (e ∷ es) (suc i) h from le = go (stops e) refl h (λ (all : StopsToTheEnd stops es). stops_from_place stops es i all behind (omega (arith, le)))
  where
    d : Entry
    d = slice_index_or (e ∷ es) i e

    fails : stops d ≡ false
    fails = from.before d i refl (slice_get-get_or (e ∷ es) i e (omega (arith, le)))

    behind : StopsFrom stops es i
    behind = record { behind = from.behind; before = λ x k is at. from.before x (suc k) (ap suc is) at }

    go : (b : Bool) → stops e ≡ b → AllStop stops (elim b as (λ _. List Entry) [ true ↦ e ∷ es | false ↦ rest stops es ]) → (StopsToTheEnd stops es → i ≡ position_or_len stops es)
        → suc i ≡ cond (not b) (1 + position_or_len stops es) 0
    go true k all r = absurd (true≢false (sym (stop_at stops (e ∷ es) i d all (slice_get-get_or (e ∷ es) i e (omega (arith, le)))) ∙ fails))
    go false k all r = omega (arith, r all)

pub drop_at : (es : List Entry) (i : ℕ) (e : Entry) → slice_get es i ≡ Some e → drop i es ≡ e ∷ drop (i + 1) es
drop_at [] i e h = cc
drop_at (x ∷ es) zero e h = grind (arith, h)
drop_at (x ∷ es) (suc i) e h = drop_at es i e h ∙ ap (λ n. e ∷ drop n (x ∷ es)) (moved i)

-- one more entry from the end on stops
pub stops_more : (stops : Entry → Bool) (es : List Entry) (i : ℕ) (e : Entry) → 0 < i → slice_get es (i - 1) ≡ Some e → stops e ≡ true → AllStop stops (drop i es) → AllStop stops (drop (i - 1) es)
stops_more stops es i e some h k all = subst (AllStop stops) (sym (drop_at es (i - 1) e h)) (k, subst (λ n. AllStop stops (drop n es)) (omega (arith, some)) all)

pub all_behind : (stops : Entry → Bool) (es : List Entry) → AllStop stops (drop (length es) es)
all_behind stops [] = tt
all_behind stops (e ∷ es) = all_behind stops es

-- The last entry that does not stop was met.
pub stops_from : (stops : Entry → Bool) (es : List Entry) (i : ℕ) (e : Entry) → slice_get es (i - 1) ≡ Some e → stops e ≡ false → AllStop stops (drop i es) → StopsFrom stops es i
stops_from stops es i e h k all = record {
  behind = all;
  before = λ d j is at. subst (λ (x : Entry). stops x ≡ false) (sym (get_is es (i - 1) e d h) ∙ ap (λ n. slice_index_or es n d) (omega (arith, is)) ∙ get_is es j d d at) k;
}

-- All entries were met.
pub stops_from_start : (stops : Entry → Bool) (es : List Entry) (i : ℕ) → i ≤ 0 → AllStop stops (drop i es) → StopsFrom stops es i
stops_from_start stops es i le all = record {
  behind = all;
  before = λ d j is at. absurd (omega (arith, le, is));
}

-- ---- by index

pub stops_behind : (stops : Entry → Bool) (es : List Entry) → StopsToTheEnd stops es → (i : ℕ) (e : Entry) → position_or_len stops es ≤ i → slice_get es i ≡ Some e → stops e ≡ true
stops_behind stops [] h i e le at = cc
stops_behind stops (x ∷ es) h i e le at = go (stops x) h i le at (stops_behind stops es)
  where
    go : (b : Bool) → AllStop stops (elim b as (λ _. List Entry) [ true ↦ x ∷ es | false ↦ rest stops es ]) → (k : ℕ) → cond (not b) (1 + position_or_len stops es) 0 ≤ k → slice_get (x ∷ es) k ≡ Some e
        → (AllStop stops (rest stops es) → (i : ℕ) (e : Entry) → position_or_len stops es ≤ i → slice_get es i ≡ Some e → stops e ≡ true) → stops e ≡ true
    go true h k le at r = stop_at stops (x ∷ es) k e h at
    go false h zero le at r = absurd (omega (arith, le))
    go false h (suc k) le at r = r h k e (omega (arith, le)) at

pub stops_to_the_end : (stops : Entry → Bool) (es : List Entry) → ((i j : ℕ) (d e : Entry) → i < j → slice_get es i ≡ Some d → slice_get es j ≡ Some e → stops d ≡ true → stops e ≡ true) → StopsToTheEnd stops es
stops_to_the_end stops [] h = tt
stops_to_the_end stops (x ∷ es) h = go (stops x) refl (stops_to_the_end stops es (λ i j d e lt a b. h (suc i) (suc j) d e (omega (arith, lt)) a b))
  where
    behind : stops x ≡ true → (i : ℕ) (e : Entry) → slice_get es i ≡ Some e → stops e ≡ true
    behind k i e at = h 0 (suc i) x e (omega arith) refl at k

    go : (b : Bool) → stops x ≡ b → StopsToTheEnd stops es → AllStop stops (elim b as (λ _. List Entry) [ true ↦ x ∷ es | false ↦ rest stops es ])
    go true k r = (k, each_stops stops es (behind k))
    go false k r = r
