-- The pieces of a text are a cut of it.
use Rattle.std.proofs.Common.{◌≡◌, ℕ, zero, suc, ◌+◌, ◌-◌, ◌<◌, ◌≤◌, Bool, true, false, List, [], ◌∷◌, length, drop, refl, sym, ap, ◌∙◌, inl, inr, arith, drop-drop, length-drop}
use Rattle.std.specs.Prelude.{◌⊎◌, ◌==◌, if◌then◌else◌, take_while}
use Rattle.std.proofs.lemmas.Bool.{cases_lt, both_ways}
use Rattle.std.proofs.lemmas.Bool.Decides.{nat_tests}
use Rattle.std.proofs.lemmas.List.Sums.{take_while-cons}
use Rattle.script_tree.specs.Names.{is_word}
use Rattle.script_tree.proofs.Lists.{rest_within, rest_behind}
use Rattle.expr_script.specs.declared.pieces.Piece.{Piece}
use Rattle.expr_script.specs.Pieces.{is_blank, is_pair, sign_len, piece_len, pieces_from, pieces}
use Rattle.expr_script.specs.Cut.{word_at, blank_at, begins_word, begins_blank, begins_pair, IsPiece, IsCut}
use Rattle.expr_script.proofs.CutBounds.{word_some, piece_some}
use Rattle.expr_script.proofs.OneCut.{Gap, CutFrom, is_cut, blank_no_word}

-- the bytes of a run, and the one behind it
pub run_bytes : (rest : List ℕ) (j : ℕ) → j < length (take_while is_word rest) → begins_word (drop j rest) ≡ true
run_bytes [] j h = absurd (omega (arith, h))
run_bytes (b ∷ bs) j h = by_test (is_word b) refl j (omega (arith, h, ap length (take_while-cons is_word b bs)))
    (λ i k. run_bytes bs i k)
  where
    by_test : (t : Bool) → is_word b ≡ t → (j : ℕ) → j < length (if t then b ∷ take_while is_word bs else []) → ((i : ℕ) → i < length (take_while is_word bs) → begins_word (drop i bs) ≡ true) → begins_word (drop j (b ∷ bs)) ≡ true
    by_test true e zero h f = e
    by_test true e (suc j) h f = f j (omega (arith, h))
    by_test false e j h f = absurd (omega (arith, h))

pub run_ends : (rest : List ℕ) → begins_word (drop (length (take_while is_word rest)) rest) ≡ false
run_ends [] = refl
run_ends (b ∷ bs) = ap (λ l. begins_word (drop (length l) (b ∷ bs))) (take_while-cons is_word b bs) ∙ by_test (is_word b) refl (run_ends bs)
  where
    by_test : (t : Bool) → is_word b ≡ t → begins_word (drop (length (take_while is_word bs)) bs) ≡ false → begins_word (drop (length (if t then b ∷ take_while is_word bs else [])) (b ∷ bs)) ≡ false
    by_test true e f = f
    by_test false e f = e

-- what may be the second byte of a sign
pair_second : (b c : ℕ) → is_pair b c ≡ true → ((c ≡ 63) ⊎ (c ≡ 124)) ⊎ ((c ≡ 38) ⊎ (c ≡ 61))
pair_second b c h = by_tests (c == 63) refl (c == 124) refl (c == 38) refl (c == 61) refl
  where
    by_tests : (t : Bool) → (c == 63) ≡ t → (u : Bool) → (c == 124) ≡ u → (v : Bool) → (c == 38) ≡ v → (w : Bool) → (c == 61) ≡ w → ((c ≡ 63) ⊎ (c ≡ 124)) ⊎ ((c ≡ 38) ⊎ (c ≡ 61))
    by_tests true e u f v g w i = inl (inl (grind (arith, nat_tests, e)))
    by_tests false e true f v g w i = inl (inr (grind (arith, nat_tests, f)))
    by_tests false e false f true g w i = inr (inl (grind (arith, nat_tests, g)))
    by_tests false e false f false g true i = inr (inr (grind (arith, nat_tests, i)))
    by_tests false e false f false g false i = grind (arith, nat_tests, e, f, g, i, h)

pub second_no_word : (b c : ℕ) → is_pair b c ≡ true → is_word c ≡ false
second_no_word b c h = by_byte (pair_second b c h)
  where
    by_byte : ((c ≡ 63) ⊎ (c ≡ 124)) ⊎ ((c ≡ 38) ⊎ (c ≡ 61)) → is_word c ≡ false
    by_byte (inl (inl e)) = ap is_word e
    by_byte (inl (inr e)) = ap is_word e
    by_byte (inr (inl e)) = ap is_word e
    by_byte (inr (inr e)) = ap is_word e

-- no word goes on at a place
Ready : List ℕ → ℕ → Type 0
Ready text at = word_at text at ≡ true → (i : ℕ) → i + 1 ≡ at → word_at text i ≡ false

-- a piece, and no word goes on behind it
record Found (text : List ℕ) (p : Piece) : Type 0 where
  piece : IsPiece text p
  ready : (next : ℕ) → next ≡ p.from + p.len → word_at text next ≡ true → (i : ℕ) → i + 1 ≡ next → word_at text i ≡ false

at_rest : (text rest : List ℕ) (at i : ℕ) → drop at text ≡ rest → at ≤ i → drop i text ≡ drop (i - at) rest
at_rest text rest at i e h = ap (λ k. drop k text) {x = i} {y = at + (i - at)} (omega arith) ∙ sym (drop-drop (i - at) at text) ∙ ap (drop (i - at)) e

run_found : (text : List ℕ) (at b : ℕ) (bs : List ℕ) (n : ℕ) → drop at text ≡ b ∷ bs → is_word b ≡ true → ((i : ℕ) → i + 1 ≡ at → word_at text i ≡ false) → n ≡ length (take_while is_word (b ∷ bs)) → Found text (record { from = at; len = n })
run_found text at b bs n e w before m =
    let ends : (next : ℕ) → next ≡ at + n → word_at text next ≡ false = λ next f. ap begins_word (at_rest text (b ∷ bs) at next e (omega (arith, f)) ∙ ap (λ k. drop k (b ∷ bs)) {x = next - at} {y = length (take_while is_word (b ∷ bs))} (omega (arith, f, m))) ∙ run_ends (b ∷ bs) in
    record {
      piece = inl (record {
        some = omega (arith, word_some b bs w, m);
        all = λ i h k. ap begins_word (at_rest text (b ∷ bs) at i e h) ∙ run_bytes (b ∷ bs) (i - at) (omega (arith, m));
        before = before;
        behind = ends (at + n) refl;
      });
      ready = λ next f u. absurd (both_ways _ (ends next f) u);
    }

sign_longest : (b : ℕ) (bs : List ℕ) → sign_len b bs ≡ (if begins_pair (b ∷ bs) then 2 else 1)
sign_longest b [] = refl
sign_longest b (c ∷ cs) = refl

-- a sign ends with a byte of no word
sign_last : (b : ℕ) (bs : List ℕ) (j : ℕ) → is_word b ≡ false → j + 1 ≡ sign_len b bs → begins_word (drop j (b ∷ bs)) ≡ false
sign_last b bs zero w e = w
sign_last b [] (suc j) w e = absurd (omega (arith, e))
sign_last b (c ∷ cs) (suc j) w e = by_test (is_pair b c) refl e
  where
    by_test : (t : Bool) → is_pair b c ≡ t → suc j + 1 ≡ (if t then 2 else 1) → begins_word (drop j (c ∷ cs)) ≡ false
    by_test true f e = ap (λ k. begins_word (drop k (c ∷ cs))) {x = j} {y = 0} (omega (arith, e)) ∙ second_no_word b c f
    by_test false f e = absurd (omega (arith, e))

sign_found : (text : List ℕ) (at b : ℕ) (bs : List ℕ) (n : ℕ) → drop at text ≡ b ∷ bs → is_word b ≡ false → is_blank b ≡ false → n ≡ sign_len b bs → Found text (record { from = at; len = n })
sign_found text at b bs n e w k m = record {
  piece = inr (record {
    within = rest_within text at b bs e;
    no_word = ap begins_word e ∙ w;
    no_blank = ap begins_blank e ∙ k;
    longest = m ∙ sign_longest b bs ∙ ap (λ l. if begins_pair l then 2 else 1) (sym e);
  });
  ready = λ next f u i g. (let h : at ≤ i = omega (arith, f, g, m, (piece_some b bs).0, sign_some b bs) in
      ap begins_word (at_rest text (b ∷ bs) at i e h) ∙ sign_last b bs (i - at) w (omega (arith, f, g, m, h)));
}
  where
    sign_some : (b : ℕ) (bs : List ℕ) → 0 < sign_len b bs
    sign_some b [] = omega arith
    sign_some b (c ∷ cs) = elim (is_pair b c) as (λ t. 0 < (if t then 2 else 1)) [ true ↦ omega arith | false ↦ omega arith ]

-- the piece that begins at a byte that is no blank
piece_found : (text : List ℕ) (at b : ℕ) (bs : List ℕ) → drop at text ≡ b ∷ bs → is_blank b ≡ false → Ready text at → Found text (record { from = at; len = piece_len (b ∷ bs) })
unfolding Ready
piece_found text at b bs e k r = by_test (is_word b) refl
  where
    by_test : (t : Bool) → is_word b ≡ t → Found text (record { from = at; len = if t then length (take_while is_word (b ∷ bs)) else sign_len b bs })
    by_test true w = run_found text at b bs (length (take_while is_word (b ∷ bs))) e w (r (ap begins_word e ∙ w)) refl
    by_test false w = sign_found text at b bs (sign_len b bs) e w k refl

widen_gap : (text : List ℕ) (at next to : ℕ) → next ≡ at → blank_at text at ≡ true → Gap text (at + 1) to → Gap text next to
widen_gap text at next to e b g = record { blanks = λ i h k. by_order i h k (cases_lt at i) }
  where
    by_order : (i : ℕ) → next ≤ i → i < to → (at < i) ⊎ (i ≤ at) → blank_at text i ≡ true
    by_order i h k (inl after) = g.blanks i (omega arith) k
    by_order i h k (inr here) = ap (blank_at text) {x = i} {y = at} (omega (arith, e)) ∙ b

widen : (text : List ℕ) (at next : ℕ) (found : List Piece) → next ≡ at → blank_at text at ≡ true → CutFrom text (at + 1) found → CutFrom text next found
widen text at next [] e b c = widen_gap text at next (length text) e b c
widen text at next (p ∷ found) e b c = (omega (arith, c.0, e), widen_gap text at next p.from e b c.1, c.2, c.3)

pieces_cut : (text rest : List ℕ) (skip at next : ℕ) → drop at text ≡ rest → next ≡ at + skip → Ready text next → CutFrom text next (pieces_from skip at rest)
unfolding Ready
pieces_cut text [] skip at next e n r = record { blanks = λ i h k. absurd (omega (arith, length-drop at text, ap length e, n, h, k)) }
pieces_cut text (b ∷ bs) (suc skip) at next e n r = pieces_cut text bs skip (at + 1) next (rest_behind text at b bs e) (omega (arith, n)) r
pieces_cut text (b ∷ bs) zero at next e n r =
    by_test (is_blank b) refl
    (λ k. pieces_cut text bs zero (at + 1) (at + 1) (rest_behind text at b bs e) (omega arith)
    (λ u i g. ap (word_at text) {x = i} {y = at} (omega (arith, g)) ∙ ap begins_word e ∙ blank_no_word b k))
    (λ f. pieces_cut text bs (piece_len (b ∷ bs) - 1) (at + 1) (at + piece_len (b ∷ bs)) (rest_behind text at b bs e) (omega (arith, (piece_some b bs).0)) (f.ready (at + piece_len (b ∷ bs)) refl))
  where
    by_test : (t : Bool) → is_blank b ≡ t → (t ≡ true → CutFrom text (at + 1) (pieces_from zero (at + 1) bs)) → (Found text (record { from = at; len = piece_len (b ∷ bs) }) → CutFrom text (at + piece_len (b ∷ bs)) (pieces_from (piece_len (b ∷ bs) - 1) (at + 1) bs)) → CutFrom text next (if t then pieces_from zero (at + 1) bs else record { from = at; len = piece_len (b ∷ bs) } ∷ pieces_from (piece_len (b ∷ bs) - 1) (at + 1) bs)
    by_test true k f g = widen text at next (pieces_from zero (at + 1) bs) (omega (arith, n)) (ap begins_blank e ∙ k) (f refl)
    by_test false k f g =
        let found : Found text (record { from = at; len = piece_len (b ∷ bs) }) = piece_found text at b bs e k (λ u i h. r (ap (word_at text) {x = next} {y = at} (omega (arith, n)) ∙ u) i (omega (arith, h, n))) in
        (omega (arith, n), record { blanks = λ i h j. absurd (omega (arith, h, j, n)) }, found.piece, g found)

pub pieces_are_cut : (text : List ℕ) → IsCut text (pieces text)
unfolding Ready
pieces_are_cut text = is_cut text (pieces text) (pieces_cut text text 0 0 0 refl (omega arith) (λ u i h. absurd (omega (arith, h))))
