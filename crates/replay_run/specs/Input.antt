-- What an input is cut into: a deck, and the schedule behind it.
use Rattle.std.specs.Prelude.{ℕ, Bool, ◌||◌, ◌==◌, if◌then◌else◌, List, [], ◌∷◌, ◌++◌, codes}
use Rattle.std.specs.List.{onto_first, concat, before_first, after_first}
use Rattle.std.specs.Str.{bytes_eq}

-- the lines of a text, each with the line feed that ends it; the last one may end with the text instead
abbrev pub whole_lines : List ℕ → List (List ℕ)
whole_lines [] = []
whole_lines (b ∷ text) = if b == 10 then (b ∷ []) ∷ whole_lines text else onto_first b (whole_lines text)

-- The line between a deck and its schedule is `---` and nothing else. Before its line feed a carriage return may stand.
abbrev pub is_divider : List ℕ → Bool
is_divider line =
    bytes_eq line (codes "---" ++ 10 ∷ []) || (bytes_eq line (codes "---" ++ 13 ∷ 10 ∷ []) || bytes_eq line (codes "---"))

-- the deck's text: the lines before the first such line, or all where there is none
abbrev pub deck_text : List ℕ → List ℕ
deck_text input = concat (before_first is_divider (whole_lines input))

-- the schedule's text: the lines behind it, or nothing
abbrev pub schedule_text : List ℕ → List ℕ
schedule_text input = concat (after_first is_divider (whole_lines input))
