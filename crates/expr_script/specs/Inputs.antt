-- The names that are kept of a list of names.
use Rattle.std.specs.Prelude.{◌≡◌, ℕ, Bool, List, length, take, nat_lt}

-- the first of all names are kept, so many at most, and whether there are more
pub record KeepsFirst (most : ℕ) (kept : List (List ℕ)) (more : Bool) (all : List (List ℕ)) : Type 0 where
  pub first : kept ≡ take most all
  pub rest : more ≡ nat_lt most (length all)
