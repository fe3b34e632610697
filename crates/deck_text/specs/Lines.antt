-- The lines of a deck.
use Rattle.std.specs.Prelude.{ℕ, ◌+◌, ◌==◌, min, Bool, List, [], ◌∷◌, length, if◌then◌else◌}
use Rattle.std.specs.List.{onto_first}

abbrev pub is_line_feed : ℕ → Bool
is_line_feed b = b == 10

-- the lines of a text, each without its line feed: a line ends with one or with the text, and after a last one there is none
abbrev pub lines : List ℕ → List (List ℕ)
lines [] = []
lines (b ∷ text) = if is_line_feed b then [] ∷ lines text else onto_first b (lines text)

-- how many bytes lines have, each with its line feed
abbrev pub with_line_feeds : List (List ℕ) → ℕ
with_line_feeds [] = 0
with_line_feeds (line ∷ more) = (length line + 1) + with_line_feeds more

-- how many bytes the first lines of a text have: the last of them ends with its line feed or with the text
abbrev pub end_of : List ℕ → List (List ℕ) → ℕ
end_of text first = min (with_line_feeds first) (length text)
