-- What is left of a list from an index on.
use Rattle.std.proofs.Common.{◌≡◌, ℕ, zero, suc, List, [], ◌∷◌, Some, None, drop, ap}
use Rattle.std.specs.Prelude.{slice_get}

-- the item at the index, and the rest
pub drop-at : {X : Type 0} (xs : List X) (i : ℕ) (x : X) → slice_get xs i ≡ Some x → drop i xs ≡ x ∷ drop (suc i) xs
drop-at [] i x h = absurd (no_item x h)
  where
    no_item : {X : Type 0} (x : X) → None ≡ Some x → ⊥
    no_item x h = cc
drop-at (y ∷ ys) zero x h = ap (λ z. z ∷ ys) (same y x h)
  where
    same : {X : Type 0} (y x : X) → Some y ≡ Some x → y ≡ x
    same y x h = cc
drop-at (y ∷ ys) (suc i) x h = drop-at ys i x h
