-- What a cut of a text into words and signs is.
use Rattle.std.specs.Prelude.{◌≡◌, ℕ, ◌+◌, ◌<◌, ◌≤◌, Bool, true, false, if◌then◌else◌, List, [], ◌∷◌, length, drop, ◌⊎◌, All}
use Rattle.script_tree.specs.Names.{is_word}
use Rattle.expr_script.specs.declared.pieces.Piece.{Piece}
use Rattle.expr_script.specs.Pieces.{is_blank, is_pair}

-- whether a text begins with a byte of a word, with a blank, with a sign of two bytes
abbrev pub begins_word : List ℕ → Bool
begins_word [] = false
begins_word (b ∷ bs) = is_word b

abbrev pub begins_blank : List ℕ → Bool
begins_blank [] = false
begins_blank (b ∷ bs) = is_blank b

abbrev pub begins_pair : List ℕ → Bool
begins_pair (b ∷ c ∷ cs) = is_pair b c
begins_pair text = false

-- the same at a place of a text
abbrev pub word_at : List ℕ → ℕ → Bool
word_at text i = begins_word (drop i text)

abbrev pub blank_at : List ℕ → ℕ → Bool
blank_at text i = begins_blank (drop i text)

abbrev pub pair_at : List ℕ → ℕ → Bool
pair_at text i = begins_pair (drop i text)

-- a word: a longest run of bytes of words. The byte before it is none, and the byte behind it is none
pub record IsRun (text : List ℕ) (piece : Piece) : Type 0 where
  pub some : 0 < piece.len
  pub all : (i : ℕ) → piece.from ≤ i → i < piece.from + piece.len → word_at text i ≡ true
  pub before : (i : ℕ) → i + 1 ≡ piece.from → word_at text i ≡ false
  pub behind : word_at text (piece.from + piece.len) ≡ false

-- a sign: two bytes where they are a sign together, and else one byte, of no word and no blank
pub record IsSign (text : List ℕ) (piece : Piece) : Type 0 where
  pub within : piece.from < length text
  pub no_word : word_at text piece.from ≡ false
  pub no_blank : blank_at text piece.from ≡ false
  pub longest : piece.len ≡ (if pair_at text piece.from then 2 else 1)

-- a word or a sign
abbrev pub IsPiece : List ℕ → Piece → Type 0
IsPiece text piece = IsRun text piece ⊎ IsSign text piece

-- pieces in the order of the text, from a place on: each begins where the one before it ends, or behind it
abbrev pub InOrder : ℕ → List Piece → Type 0
InOrder at [] = Unit {0}
InOrder at (piece ∷ more) = (at ≤ piece.from) × InOrder (piece.from + piece.len) more

-- a byte lies in no piece
abbrev pub LiesOutside : ℕ → List Piece → Type 0
LiesOutside i found = All (λ piece. (i < piece.from) ⊎ (piece.from + piece.len ≤ i)) found

-- a cut: words and signs in order, and only blanks outside them
pub record IsCut (text : List ℕ) (found : List Piece) : Type 0 where
  pub in_order : InOrder 0 found
  pub pieces : All (IsPiece text) found
  pub blanks : (i : ℕ) → i < length text → LiesOutside i found → blank_at text i ≡ true
