-- Words, cut at one of them.
use Rattle.std.specs.Prelude.{ℕ, Bool, if◌then◌else◌, List, [], ◌∷◌, ◌++◌}
use Rattle.std.specs.List.{All, list_any}
use Rattle.std.specs.Str.{bytes_eq}
use Rattle.expr_script.specs.declared.pieces.Piece.{Piece}
use Rattle.expr_script.specs.Pieces.{IsPieceOf}

-- whether a word stands among others
abbrev pub has : List ℕ → List (List ℕ) → Bool
has sign words = list_any (λ word. bytes_eq word sign) words

-- what stands before the first such word, or all where there is none
abbrev pub before : List ℕ → List (List ℕ) → List (List ℕ)
before sign [] = []
before sign (word ∷ words) = if bytes_eq word sign then [] else word ∷ before sign words

-- what stands behind it, or nothing
abbrev pub behind : List ℕ → List (List ℕ) → List (List ℕ)
behind sign [] = []
behind sign (word ∷ words) = if bytes_eq word sign then words else behind sign words

-- lists of words, each of them behind a sign
abbrev pub each_behind : List ℕ → List (List (List ℕ)) → List (List ℕ)
each_behind sign [] = []
each_behind sign (part ∷ parts) = sign ∷ (part ++ each_behind sign parts)

-- lists of words with a sign between each two
abbrev pub separated : List ℕ → List (List (List ℕ)) → List (List ℕ)
separated sign [] = []
separated sign (part ∷ parts) = part ++ each_behind sign parts

-- pieces of a text, which it is cut into
abbrev pub ArePiecesOf : List ℕ → List Piece → Type 0
ArePiecesOf text found = All (IsPieceOf text) found
