-- Words and signs written one after the other.
use Rattle.std.specs.Prelude.{◌≡◌, ℕ, ◌<◌, Bool, false, ◌&&◌, if◌then◌else◌, List, [], ◌∷◌, ◌++◌, length, codes}
use Rattle.expr_script.specs.Pieces.{is_pair, piece_len}
use Rattle.expr_script.specs.Cut.{begins_word, begins_blank}

-- a space before a word, where a word stands before it
abbrev pub gap : Bool → List ℕ → List ℕ
gap behind_word w = if behind_word && begins_word w then codes " " else []

-- a space between two words
abbrev pub between : List ℕ → List ℕ → List ℕ
between w v = gap (begins_word w) v

-- words and signs as they are written behind another one
abbrev pub behind : List ℕ → List (List ℕ) → List ℕ
behind last [] = []
behind last (w ∷ words) = between last w ++ (w ++ behind w words)

-- words and signs with one space exactly between two words that follow each other, and no other blanks
abbrev pub joined : List (List ℕ) → List ℕ
joined words = behind [] words

-- whether a sign of one byte would be read as one sign with the first byte behind it
abbrev pub merges : List ℕ → List ℕ → Bool
merges (b ∷ []) (c ∷ cs) = is_pair b c
merges w v = false

-- a word or a sign by itself: cutting it leaves it whole
pub record IsWhole (word : List ℕ) : Type 0 where
  pub some : 0 < length word
  pub no_blank : begins_blank word ≡ false
  pub whole : piece_len word ≡ length word

-- words and signs that can be told apart when they are written behind another one: none merges with the next
abbrev pub StandApart : List ℕ → List (List ℕ) → Type 0
StandApart last [] = Unit {0}
StandApart last (w ∷ words) = (merges last w ≡ false) × IsWhole w × StandApart w words
