-- The text of a line, and its words.
use Rattle.std.specs.Prelude.{ℕ, ◌==◌, ◌||◌, Bool, List, [], ◌∷◌, if◌then◌else◌}
use Rattle.std.specs.List.{before_first}
use Rattle.expr_script.specs.Pieces.{words}

abbrev pub is_hash : ℕ → Bool
is_hash b = b == 35

-- a line without its comment, that is a `#` and all that follows it
abbrev pub without_comment : List ℕ → List ℕ
without_comment line = before_first is_hash line

-- a line without one carriage return at its end
abbrev pub without_return : List ℕ → List ℕ
without_return [] = []
without_return (b ∷ []) = if b == 13 then [] else b ∷ []
without_return (b ∷ c ∷ line) = b ∷ without_return (c ∷ line)

-- what a line says: neither the carriage return nor the comment is part of it
abbrev pub said : List ℕ → List ℕ
said line = without_comment (without_return line)

-- the words and signs of a line
abbrev pub line_words : List ℕ → List (List ℕ)
line_words line = words (said line)

-- a byte that ends a line or what it says: a line feed, a carriage return, a `#`
abbrev pub is_end : ℕ → Bool
is_end b = b == 35 || (b == 13 || b == 10)
