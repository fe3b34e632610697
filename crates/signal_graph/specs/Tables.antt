-- The index of a table of names.
use Rattle.std.specs.Prelude.{◌≡◌, ℕ, ◌+◌, ◌≤◌, Bool, nat_lt, if◌then◌else◌, List, [], ◌∷◌, length, Option, Some, None}
use Rattle.std.specs.Str.{bytes_eq}
use Rattle.std.specs.HashMap.{HashMap, get_by}
use Rattle.std.specs.Global.{Vec}
use Rattle.script_tree.specs.declared.limits.TheConstants.{NODES}
use Rattle.script_tree.specs.Names.{place_in}

-- the number of the first entry with a name, counted from n
abbrev pub found_from : ℕ → List (List ℕ) → List ℕ → Option ℕ
found_from n [] name = None
found_from n (other ∷ names) name = if bytes_eq other name then Some n else found_from (n + 1) names name

-- whether a name is in a table
abbrev pub is_declared : List (List ℕ) → List ℕ → Bool
is_declared names name = nat_lt (place_in names name) (length names)

-- at most as many names as a graph has nodes, and an index that has the number of each name and of no other text
pub record IsTable {S : Type 0} (names : List (List ℕ)) (numbers : HashMap (Vec ℕ) ℕ S) : Type 0 where
  pub few : length names ≤ NODES
  pub finds : (name : List ℕ) → get_by (λ key. bytes_eq name key.items) numbers ≡ found_from 0 names name
