-- A name's place among names is one of theirs, or the end.
use Rattle.std.proofs.Common.{◌≡◌, ℕ, ◌≤◌, List, [], ◌∷◌, length, arith}
use Rattle.script_tree.specs.Names.{place_in}

pub place_within : (names : List (List ℕ)) (name : List ℕ) → place_in names name ≤ length names
place_within [] name = omega arith
place_within (other ∷ names) name = let rest = place_within names name in grind (arith, rest)
