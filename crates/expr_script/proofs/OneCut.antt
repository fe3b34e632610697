-- A text has one cut, piece by piece.
use Rattle.std.proofs.Common.{◌≡◌, ℕ, zero, suc, ◌+◌, ◌<◌, ◌≤◌, Bool, true, false, List, [], ◌∷◌, length, drop, refl, sym, ap, ◌∙◌, subst, inl, inr, arith}
use Rattle.std.specs.Prelude.{◌⊎◌, if◌then◌else◌, ◌==◌}
use Rattle.std.proofs.lemmas.Bool.Decides.{nat_tests}
use Rattle.script_tree.specs.Names.{is_word}
use Rattle.expr_script.specs.Pieces.{is_blank}
use Rattle.std.specs.List.{AllByRecursion}
use Rattle.std.proofs.lemmas.Bool.{cases_lt, both_ways}
use Rattle.std.proofs.lemmas.List.Elements.{All-from_recursion, recursion_from_All}
use Rattle.expr_script.specs.declared.pieces.Piece.{Piece}
use Rattle.expr_script.specs.Cut.{word_at, blank_at, pair_at, begins_word, begins_blank, IsRun, IsPiece, InOrder, IsCut}

-- a byte lies outside a piece
abbrev pub Outside : ℕ → Piece → Type 0
Outside i piece = (i < piece.from) ⊎ (piece.from + piece.len ≤ i)

-- blanks from a place on, up to another one
pub record Gap (text : List ℕ) (at to : ℕ) : Type 0 where
  pub blanks : (i : ℕ) → at ≤ i → i < to → blank_at text i ≡ true

-- the rest of a cut from a place on
abbrev pub CutFrom : List ℕ → ℕ → List Piece → Type 0
CutFrom text at [] = Gap text at (length text)
CutFrom text at (p ∷ found) = (at ≤ p.from) × Gap text at p.from × IsPiece text p × CutFrom text (p.from + p.len) found

later : (i at : ℕ) (found : List Piece) → InOrder at found → i < at → AllByRecursion (Outside i) found
later i at [] o h = tt
later i at (p ∷ found) o h = (inl (omega (arith, o.0)), later i (p.from + p.len) found o.1 (omega (arith, o.0)))

pub from_parts : (text : List ℕ) (at : ℕ) (found : List Piece) → InOrder at found → AllByRecursion (IsPiece text) found → ((i : ℕ) → at ≤ i → i < length text → AllByRecursion (Outside i) found → blank_at text i ≡ true) → ((p : Piece) → IsPiece text p → p.from < length text) → CutFrom text at found
from_parts text at [] o p b w = record { blanks = λ i h k. b i h k tt }
from_parts text at (q ∷ found) o p b w = (
  o.0,
  record { blanks = λ i h k. b i h (omega (arith, w q p.0)) (inl k, later i (q.from + q.len) found o.1 (omega arith)) },
  p.0,
  from_parts text (q.from + q.len) found o.1 p.1 (λ i h k u. b i (omega (arith, o.0)) k (inr h, u)) w,
)

order_of : (text : List ℕ) (at : ℕ) (found : List Piece) → CutFrom text at found → InOrder at found
order_of text at [] c = tt
order_of text at (p ∷ found) c = (c.0, order_of text (p.from + p.len) found c.3)

pieces_of : (text : List ℕ) (at : ℕ) (found : List Piece) → CutFrom text at found → AllByRecursion (IsPiece text) found
pieces_of text at [] c = tt
pieces_of text at (p ∷ found) c = (c.2, pieces_of text (p.from + p.len) found c.3)

blanks_of : (text : List ℕ) (at : ℕ) (found : List Piece) → CutFrom text at found → (i : ℕ) → at ≤ i → i < length text → AllByRecursion (Outside i) found → blank_at text i ≡ true
blanks_of text at [] c i h k u = c.blanks i h k
blanks_of text at (p ∷ found) c i h k u = by_side text i p c.1 (λ behind. blanks_of text (p.from + p.len) found c.3 i behind k u.1) u.0 h
  where
    by_side : (text : List ℕ) (i : ℕ) (p : Piece) → Gap text at p.from → (p.from + p.len ≤ i → blank_at text i ≡ true) → Outside i p → at ≤ i → blank_at text i ≡ true
    by_side text i p g f (inl before) h = g.blanks i h before
    by_side text i p g f (inr behind) h = f behind

-- a byte of a word is a byte of the text, and no blank
pub word_within : (text : List ℕ) (i : ℕ) → word_at text i ≡ true → i < length text
word_within [] zero h = let e : false ≡ true = h in cc
word_within [] (suc i) h = let e : false ≡ true = h in cc
word_within (b ∷ text) zero h = omega arith
word_within (b ∷ text) (suc i) h = omega (arith, word_within text i h)

blank_is : (b : ℕ) → is_blank b ≡ true → (b ≡ 32) ⊎ (b ≡ 9)
blank_is b e = by_test (b == 32) refl
  where
    by_test : (t : Bool) → (b == 32) ≡ t → (b ≡ 32) ⊎ (b ≡ 9)
    by_test true f = inl (grind (arith, nat_tests, f))
    by_test false f = inr (grind (arith, nat_tests, f, e))

pub blank_no_word : (b : ℕ) → is_blank b ≡ true → is_word b ≡ false
blank_no_word b e = by_byte b (blank_is b e)
  where
    by_byte : (b : ℕ) → (b ≡ 32) ⊎ (b ≡ 9) → is_word b ≡ false
    by_byte b (inl f) = ap is_word f
    by_byte b (inr f) = ap is_word f

pub word_no_blank : (text : List ℕ) → begins_word text ≡ true → begins_blank text ≡ false
word_no_blank [] h = refl
word_no_blank (b ∷ bs) h = by_test (is_blank b) refl
  where
    by_test : (t : Bool) → is_blank b ≡ t → t ≡ false
    by_test true e = let f : false ≡ true = sym (blank_no_word b e) ∙ h in cc
    by_test false e = refl

first_word : (text : List ℕ) (p : Piece) → IsRun text p → word_at text p.from ≡ true
first_word text p r = r.all p.from (omega arith) (omega (arith, r.some))

pub piece_within : (text : List ℕ) (p : Piece) → IsPiece text p → p.from < length text
piece_within text p (inl r) = word_within text p.from (first_word text p r)
piece_within text p (inr s) = s.within

piece_first : (text : List ℕ) (p : Piece) → IsPiece text p → blank_at text p.from ≡ false
piece_first text p (inl r) = word_no_blank (drop p.from text) (first_word text p r)
piece_first text p (inr s) = s.no_blank

-- a run can't end inside another one that begins with it
run_no_longer : (text : List ℕ) (p q : Piece) → IsRun text p → IsRun text q → p.from ≡ q.from → p.len < q.len → ⊥
run_no_longer text p q r s e h = both_ways _ r.behind (s.all (p.from + p.len) (omega arith) (omega arith))

same_len : (text : List ℕ) (p q : Piece) → IsPiece text p → IsPiece text q → p.from ≡ q.from → p.len ≡ q.len
same_len text p q (inl r) (inl s) e = by_order (cases_lt p.len q.len) (cases_lt q.len p.len)
  where
    by_order : (p.len < q.len) ⊎ (q.len ≤ p.len) → (q.len < p.len) ⊎ (p.len ≤ q.len) → p.len ≡ q.len
    by_order (inl h) k = absurd (run_no_longer text p q r s e h)
    by_order (inr h) (inl k) = absurd (run_no_longer text q p s r (sym e) k)
    by_order (inr h) (inr k) = omega arith
same_len text p q (inl r) (inr s) e = absurd (both_ways _ (ap (word_at text) e ∙ s.no_word) (first_word text p r))
same_len text p q (inr r) (inl s) e = absurd (both_ways _ (ap (word_at text) (sym e) ∙ r.no_word) (first_word text q s))
same_len text p q (inr r) (inr s) e = r.longest ∙ ap (λ i. if pair_at text i then 2 else 1) e ∙ sym s.longest

same_from : (text : List ℕ) (at : ℕ) (p q : Piece) → at ≤ p.from → at ≤ q.from → Gap text at p.from → Gap text at q.from → IsPiece text p → IsPiece text q → p.from ≡ q.from
same_from text at p q h k g f u v = by_order (cases_lt p.from q.from) (cases_lt q.from p.from)
  where
    by_order : (p.from < q.from) ⊎ (q.from ≤ p.from) → (q.from < p.from) ⊎ (p.from ≤ q.from) → p.from ≡ q.from
    by_order (inl i) j = absurd (both_ways _ (piece_first text p u) (f.blanks p.from h i))
    by_order (inr i) (inl j) = absurd (both_ways _ (piece_first text q v) (g.blanks q.from k j))
    by_order (inr i) (inr j) = omega arith

same_piece : (p q : Piece) → p.from ≡ q.from → p.len ≡ q.len → p ≡ q
same_piece p q e f = ap (λ i. record { from = i; len = p.len }) e ∙ ap (λ n. record { from = q.from; len = n }) f

one_from : (text : List ℕ) (at : ℕ) (found other : List Piece) → CutFrom text at found → CutFrom text at other → found ≡ other
one_from text at [] [] c d = refl
one_from text at [] (q ∷ other) c d = absurd (both_ways _ (piece_first text q d.2) (c.blanks q.from d.0 (piece_within text q d.2)))
one_from text at (p ∷ found) [] c d = absurd (both_ways _ (piece_first text p c.2) (d.blanks p.from c.0 (piece_within text p c.2)))
one_from text at (p ∷ found) (q ∷ other) c d =
    let e : p ≡ q = same_piece p q (same_from text at p q c.0 d.0 c.1 d.1 c.2 d.2) (same_len text p q c.2 d.2 (same_from text at p q c.0 d.0 c.1 d.1 c.2 d.2)) in
    ap (λ r. r ∷ found) e ∙ ap (λ l. q ∷ l) (one_from text (q.from + q.len) found other (subst (λ (r : Piece). CutFrom text (r.from + r.len) found) e c.3) d.3)

pub cut_from : (text : List ℕ) (found : List Piece) → IsCut text found → CutFrom text 0 found
cut_from text found c =
    from_parts text 0 found c.in_order (recursion_from_All (IsPiece text) found c.pieces)
    (λ i h k u. c.blanks i k (All-from_recursion (Outside i) found u))
    (λ p. piece_within text p)

pub is_cut : (text : List ℕ) (found : List Piece) → CutFrom text 0 found → IsCut text found
is_cut text found c = record {
  in_order = order_of text 0 found c;
  pieces = All-from_recursion (IsPiece text) found (pieces_of text 0 found c);
  blanks = λ i h u. blanks_of text 0 found c i (omega arith) h (recursion_from_All (Outside i) found u);
}

pub one_cut : (text : List ℕ) (found other : List Piece) → IsCut text found → IsCut text other → found ≡ other
one_cut text found other c d = one_from text 0 found other (cut_from text found c) (cut_from text other d)
