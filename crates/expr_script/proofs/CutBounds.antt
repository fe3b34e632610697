-- Each piece of a text has bytes and lies in the text.
use Rattle.std.proofs.Common.{◌≡◌, ℕ, zero, suc, ◌+◌, ◌-◌, ◌<◌, ◌≤◌, Bool, true, false, List, [], ◌∷◌, length, refl, sym, ap, ◌∙◌, arith, ◌++◌, drop, append-nil, get_or}
use Rattle.std.proofs.Math.ListN.{drop_of_length-le}
use Rattle.std.specs.Prelude.{if◌then◌else◌, take_while}
use Rattle.std.specs.List.{All, AllByRecursion}
use Rattle.std.proofs.lemmas.List.Elements.{All-from_recursion, All-contains, All-contains_itself}
use Rattle.std.proofs.lemmas.List.Sums.{take_while-cons}
use Rattle.std.proofs.lemmas.Grind.{common_steps}
use Rattle.script_tree.specs.Names.{is_word}
use Rattle.expr_script.specs.declared.pieces.Piece.{Piece}
use Rattle.expr_script.specs.Pieces.{is_blank, is_pair, sign_len, piece_len, pieces_from, pieces, IsPieceOf}

-- a piece that has bytes and ends at a bound or before it
pub record Lies (bound : ℕ) (piece : Piece) : Type 0 where
  pub within : piece.from + piece.len ≤ bound
  pub some : 0 < piece.len

length-take_while-le : (xs : List ℕ) → length (take_while is_word xs) ≤ length xs
length-take_while-le xs = grind (arith, common_steps)

pub word_some : (b : ℕ) (bs : List ℕ) → is_word b ≡ true → 0 < length (take_while is_word (b ∷ bs))
word_some b bs e = grind (arith, ap length (take_while-cons is_word b bs), e)

sign_within : (b : ℕ) (bs : List ℕ) → (0 < sign_len b bs) × (sign_len b bs ≤ length (b ∷ bs))
sign_within b [] = (omega arith, omega arith)
sign_within b (c ∷ cs) = by_pair (is_pair b c)
  where
    by_pair : (t : Bool) → (0 < (if t then 2 else 1)) × ((if t then 2 else 1) ≤ length (b ∷ c ∷ cs))
    by_pair true = (omega arith, omega arith)
    by_pair false = (omega arith, omega arith)

by_word : (t : Bool) (l s n : ℕ) → (t ≡ true → 0 < l) → l ≤ n → 0 < s → s ≤ n → (0 < (if t then l else s)) × ((if t then l else s) ≤ n)
by_word true l s n p q r u = (p refl, q)
by_word false l s n p q r u = (r, u)

pub piece_some : (b : ℕ) (bs : List ℕ) → (0 < piece_len (b ∷ bs)) × (piece_len (b ∷ bs) ≤ length (b ∷ bs))
piece_some b bs =
    let sign = sign_within b bs in
    by_word (is_word b) (length (take_while is_word (b ∷ bs))) (sign_len b bs) (length (b ∷ bs)) (word_some b bs) (length-take_while-le (b ∷ bs)) sign.0 sign.1

either : (P : Piece → Type 0) (t : Bool) (xs ys : List Piece) → AllByRecursion P xs → AllByRecursion P ys → AllByRecursion P (if t then xs else ys)
either P true xs ys p q = p
either P false xs ys p q = q

all_lie : (skip at : ℕ) (text : List ℕ) (bound : ℕ) → at + length text ≡ bound → AllByRecursion (Lies bound) (pieces_from skip at text)
all_lie skip at [] bound e = tt
all_lie (suc skip) at (b ∷ bs) bound e = all_lie skip (at + 1) bs bound (omega arith)
all_lie zero at (b ∷ bs) bound e =
    let lens = piece_some b bs in
    let len = piece_len (b ∷ bs) in
    either (Lies bound) (is_blank b) _ _
    (all_lie zero (at + 1) bs bound (omega arith))
    (record { within = omega (arith, lens.1); some = lens.0 }, all_lie (len - 1) (at + 1) bs bound (omega arith))

pub pieces_lie : (text : List ℕ) → All (Lies (length text)) (pieces text)
pieces_lie text = All-from_recursion (Lies (length text)) (pieces text) (all_lie 0 0 text (length text) (omega arith))

-- what a text is cut into are its pieces
pub pieces_of_it : (text : List ℕ) → All (IsPieceOf text) (pieces text)
unfolding IsPieceOf
pieces_of_it text = All-contains_itself (pieces text)

-- what all pieces are that a text is cut into, each of its pieces is
pub one_of_all : (P : Piece → Type 0) (text : List ℕ) (piece : Piece) → All P (pieces text) → IsPieceOf text piece → P piece
unfolding IsPieceOf
one_of_all P text piece all one = All-contains P (pieces text) piece all one

pub piece_of_lies : (text : List ℕ) (piece : Piece) → IsPieceOf text piece → Lies (length text) piece
piece_of_lies text piece one = one_of_all (Lies (length text)) text piece (pieces_lie text) one

pub all_within : (text : List ℕ) (found : List Piece) → All (IsPieceOf text) found → All (λ piece. piece.from + piece.len ≤ length text) found
all_within text found all k d h = (piece_of_lies text (get_or found k d) (all k d h)).within

-- at the end of a text nothing is left to be cut
pub all_found : (found total : List Piece) (text : List ℕ) (skip at : ℕ) → length text ≤ at → found ++ pieces_from skip at (drop at text) ≡ total → found ≡ total
all_found found total text skip at h e = sym (append-nil found) ∙ ap (λ l. found ++ pieces_from skip at l) (sym (drop_of_length-le text h)) ∙ e
