-- The neighbours of a place in a list are the entry at the place's index and the one right before it.
use Rattle.std.proofs.Common.{◌≡◌, ℕ, zero, suc, Bool, true, false, refl, arith, List, [], ◌∷◌, length, slice_get, ◌∙◌, Option, Some, None}
use Rattle.std.specs.List.{position_or_len}
use Rattle.node_versions.specs.Entries.{Entry, front, rest, first_entry, last_entry}
use Rattle.node_versions.proofs.Lists.{length-front}

-- The right neighbour stands at the place.
pub right-at : (stops : Entry → Bool) (es : List Entry) → first_entry (rest stops es) ≡ slice_get es (position_or_len stops es)
right-at stops [] = refl
right-at stops (e ∷ es) = let r = right-at stops es in grind (arith, r)

last-at : (stops : Entry → Bool) (es : List Entry) (seen : Option Entry) (k : ℕ) → length (front stops es) ≡ suc k → last_entry seen (front stops es) ≡ slice_get es k
last-at stops [] seen k h = absurd (omega (arith, h))
last-at stops (e ∷ es) seen k h = go (stops e) k h (λ (j : ℕ). last-at stops es (Some e) j)
  where
    none : (xs : List Entry) → length xs ≡ 0 → last_entry (Some e) xs ≡ Some e
    none [] k = refl
    none (x ∷ xs) k = absurd (omega (arith, k))

    go : (b : Bool) (k : ℕ) → length (elim b as (λ _. List Entry) [ true ↦ [] | false ↦ e ∷ front stops es ]) ≡ suc k → ((j : ℕ) → length (front stops es) ≡ suc j → last_entry (Some e) (front stops es) ≡ slice_get es j)
        → last_entry seen (elim b as (λ _. List Entry) [ true ↦ [] | false ↦ e ∷ front stops es ]) ≡ slice_get (e ∷ es) k
    go true k h f = absurd (omega (arith, h))
    go false zero h f = none (front stops es) (omega (arith, h))
    go false (suc j) h f = f j (omega (arith, h))

empty-front : (xs : List Entry) → length xs ≡ 0 → last_entry None xs ≡ None
empty-front [] k = refl
empty-front (x ∷ xs) k = absurd (omega (arith, k))

-- The left neighbour stands right before the place, where that is not the first.
pub left-at : (stops : Entry → Bool) (es : List Entry) → (position_or_len stops es ≡ 0 → last_entry None (front stops es) ≡ None) × ((k : ℕ) → position_or_len stops es ≡ suc k → last_entry None (front stops es) ≡ slice_get es k)
left-at stops es = (λ e. empty-front (front stops es) (length-front stops es ∙ e), λ k e. last-at stops es None k (length-front stops es ∙ e))
