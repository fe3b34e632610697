-- The words and signs of a text: a word is the longest run of its bytes, and a sign the longest one.
use Rattle.std.specs.Prelude.{ℕ, zero, suc, ◌+◌, ◌-◌, Bool, ◌&&◌, ◌||◌, ◌==◌, if◌then◌else◌, List, []}
use Rattle.std.specs.Prelude.{◌∷◌, length, take, drop, take_while, map, slice_get, unwrap_or, Contains}
use Rattle.std.specs.Option.{option_map}
use Rattle.script_tree.specs.Names.{is_word}
use Rattle.expr_script.specs.declared.pieces.Piece.{Piece}

-- a space or a tab
abbrev pub is_blank : ℕ → Bool
is_blank b = b == 32 || b == 9

-- the signs of two bytes: ?? || && == != <= >=
abbrev pub is_pair : ℕ → ℕ → Bool
is_pair b c =
    ((c == 63 || c == 124 || c == 38) && b == c)
    || (c == 61 && (b == 61 || b == 33 || b == 60 || b == 62))

-- the length of a sign, or of a byte that stands alone, from its first byte and the bytes behind it
abbrev pub sign_len : ℕ → List ℕ → ℕ
sign_len b [] = 1
sign_len b (c ∷ cs) = if is_pair b c then 2 else 1

-- the length of the piece at the front of a text
abbrev pub piece_len : List ℕ → ℕ
piece_len [] = 0
piece_len (b ∷ bs) = if is_word b then length (take_while is_word (b ∷ bs)) else sign_len b bs

-- the pieces of a text that stands at a place, where its first bytes, so many, still belong to the piece before it
abbrev pub pieces_from : ℕ → ℕ → List ℕ → List Piece
pieces_from skip at [] = []
pieces_from (suc skip) at (b ∷ bs) = pieces_from skip (at + 1) bs
pieces_from zero at (b ∷ bs) =
    if is_blank b then pieces_from zero (at + 1) bs
    else record { from = at; len = piece_len (b ∷ bs) } ∷ pieces_from (piece_len (b ∷ bs) - 1) (at + 1) bs

-- the words and signs of a text, in their order
abbrev pub pieces : List ℕ → List Piece
pieces text = pieces_from 0 0 text

-- a piece of a text is one of those that the text is cut into
unfoldable pub IsPieceOf : List ℕ → Piece → Type 0
IsPieceOf text piece = Contains (pieces text) piece

-- the bytes of a piece
abbrev pub bytes_of : List ℕ → Piece → List ℕ
bytes_of text piece = take piece.len (drop piece.from text)

-- the bytes of some pieces of a text, in their order
abbrev pub words_among : List ℕ → List Piece → List (List ℕ)
words_among text found = map (bytes_of text) found

-- the words and signs of a text, as bytes
abbrev pub words : List ℕ → List (List ℕ)
words text = words_among text (pieces text)

-- the place of a piece by its number, and behind all pieces the end
abbrev pub place_at : List Piece → ℕ → ℕ → ℕ
place_at found end k = unwrap_or (option_map (λ piece. piece.from) (slice_get found k)) end

-- the place of a word or sign of a text, and behind all of them the length of the text
abbrev pub place : List ℕ → ℕ → ℕ
place text = place_at (pieces text) (length text)
