-- The different names of several scripts.
use Rattle.std.specs.Prelude.{ℕ, List, [], ◌∷◌, ◌++◌, if◌then◌else◌}
use Rattle.std.specs.List.{list_any}
use Rattle.std.specs.Str.{bytes_eq}

-- the names that were seen with those of a list that were not, each once
abbrev pub seen_after : List (List ℕ) → List (List ℕ) → List (List ℕ)
seen_after seen [] = seen
seen_after seen (name ∷ names) = if list_any (bytes_eq name) seen then seen_after seen names else seen_after (seen ++ name ∷ []) names
