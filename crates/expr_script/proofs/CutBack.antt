-- Words that are written can be cut again, and are no longer than the text that they were cut from.
use Rattle.std.proofs.Common.{◌≡◌, ℕ, zero, suc, ◌+◌, ◌-◌, ◌<◌, ◌≤◌, Bool, true, false, List, [], ◌∷◌, ◌++◌, length, take, drop, refl, sym, ap, ◌∙◌, subst, arith, length-append, length-drop, append_assoc}
use Rattle.std.specs.Prelude.{if◌then◌else◌, ◌&&◌, take_while, codes}
use Rattle.std.specs.List.{AllByRecursion}
use Rattle.std.proofs.lemmas.List.Sums.{take_while-cons}
use Rattle.std.proofs.Math.Seq.{take-append_seam, drop-append_seam}
use Rattle.std.proofs.lemmas.List.{length-take}
use Rattle.script_tree.specs.Names.{is_word}
use Rattle.expr_script.specs.Pieces.{is_blank, sign_len, piece_len, pieces_from, words_among, words}
use Rattle.expr_script.specs.Cut.{begins_word}
use Rattle.expr_script.specs.Joined.{between, behind, joined, merges, IsWhole, StandApart}
use Rattle.expr_script.proofs.CutBounds.{piece_some}
use Rattle.expr_script.proofs.FoundCut.{run_ends}

-- the words of a text whose first bytes, so many, are left out
pub cut : ℕ → List ℕ → List (List ℕ)
cut skip [] = []
cut (suc skip) (b ∷ bs) = cut skip bs
cut zero (b ∷ bs) = if is_blank b then cut zero bs else take (piece_len (b ∷ bs)) (b ∷ bs) ∷ cut (piece_len (b ∷ bs) - 1) bs

push_front : (front : List ℕ) (b : ℕ) (bs : List ℕ) → (front ++ b ∷ []) ++ bs ≡ front ++ b ∷ bs
push_front front b bs = append_assoc front (b ∷ []) bs

words_cut_from : (front rest : List ℕ) (skip at : ℕ) → at ≡ length front → words_among (front ++ rest) (pieces_from skip at rest) ≡ cut skip rest
unfolding cut
words_cut_from front [] skip at e = refl
words_cut_from front (b ∷ bs) (suc skip) at e =
    ap (λ l. words_among l (pieces_from skip (at + 1) bs)) (sym (push_front front b bs))
    ∙ words_cut_from (front ++ b ∷ []) bs skip (at + 1) (omega (arith, e, length-append front (b ∷ [])))
words_cut_from front (b ∷ bs) zero at e =
    by_test (is_blank b)
    (ap (λ l. words_among l (pieces_from zero (at + 1) bs)) (sym (push_front front b bs))
    ∙ words_cut_from (front ++ b ∷ []) bs zero (at + 1) (omega (arith, e, length-append front (b ∷ []))))
    (ap (λ l. words_among l (pieces_from (piece_len (b ∷ bs) - 1) (at + 1) bs)) (sym (push_front front b bs))
    ∙ words_cut_from (front ++ b ∷ []) bs (piece_len (b ∷ bs) - 1) (at + 1) (omega (arith, e, length-append front (b ∷ []))))
  where
    by_test : (t : Bool) → words_among (front ++ b ∷ bs) (pieces_from zero (at + 1) bs) ≡ cut zero bs → words_among (front ++ b ∷ bs) (pieces_from (piece_len (b ∷ bs) - 1) (at + 1) bs) ≡ cut (piece_len (b ∷ bs) - 1) bs
        → words_among (front ++ b ∷ bs) (if t then pieces_from zero (at + 1) bs else record { from = at; len = piece_len (b ∷ bs) } ∷ pieces_from (piece_len (b ∷ bs) - 1) (at + 1) bs) ≡ (if t then cut zero bs else take (piece_len (b ∷ bs)) (b ∷ bs) ∷ cut (piece_len (b ∷ bs) - 1) bs)
    by_test true p q = p
    by_test false p q =
        ap (λ k. take (piece_len (b ∷ bs)) (drop k (front ++ b ∷ bs)) ∷ words_among (front ++ b ∷ bs) (pieces_from (piece_len (b ∷ bs) - 1) (at + 1) bs)) e
        ∙ ap (λ l. take (piece_len (b ∷ bs)) l ∷ words_among (front ++ b ∷ bs) (pieces_from (piece_len (b ∷ bs) - 1) (at + 1) bs)) (drop-append_seam front (b ∷ bs))
        ∙ ap (λ l. take (piece_len (b ∷ bs)) (b ∷ bs) ∷ l) q

pub words_cut : (text : List ℕ) → words text ≡ cut 0 text
words_cut text = words_cut_from [] text 0 0 refl

cut_past : (front rest : List ℕ) → cut (length front) (front ++ rest) ≡ cut 0 rest
unfolding cut
cut_past [] rest = refl
cut_past (b ∷ front) rest = cut_past front rest

run_whole : (w rest : List ℕ) → length (take_while is_word w) ≡ length w → begins_word rest ≡ false → length (take_while is_word (w ++ rest)) ≡ length w
run_whole [] [] h e = refl
run_whole [] (c ∷ cs) h e = ap length (take_while-cons is_word c cs) ∙ ap (λ t. length (if t then c ∷ take_while is_word cs else [])) e
run_whole (b ∷ bs) rest h e =
    ap length (take_while-cons is_word b (bs ++ rest)) ∙ by_test (is_word b) (sym (ap length (take_while-cons is_word b bs)) ∙ h) (λ i. run_whole bs rest i e)
  where
    by_test : (t : Bool) → length (if t then b ∷ take_while is_word bs else []) ≡ length (b ∷ bs) → (length (take_while is_word bs) ≡ length bs → length (take_while is_word (bs ++ rest)) ≡ length bs) → length (if t then b ∷ take_while is_word (bs ++ rest) else []) ≡ length (b ∷ bs)
    by_test true h f = ap suc (f (omega (arith, h)))
    by_test false h f = absurd (omega (arith, h))

sign_whole : (b : ℕ) (bs rest : List ℕ) → sign_len b bs ≡ length (b ∷ bs) → merges (b ∷ bs) rest ≡ false → sign_len b (bs ++ rest) ≡ length (b ∷ bs)
sign_whole b [] [] h m = refl
sign_whole b [] (c ∷ cs) h m = ap (λ t. if t then 2 else 1) m
sign_whole b (c ∷ bs) rest h m = h

-- the word or sign that a text begins with
whole_len : (b : ℕ) (bs rest : List ℕ) → piece_len (b ∷ bs) ≡ length (b ∷ bs) → (begins_word (b ∷ bs) ≡ true → begins_word rest ≡ false) → merges (b ∷ bs) rest ≡ false → piece_len (b ∷ (bs ++ rest)) ≡ length (b ∷ bs)
whole_len b bs rest h w m = by_test (is_word b) h w
  where
    by_test : (t : Bool) → (if t then length (take_while is_word (b ∷ bs)) else sign_len b bs) ≡ length (b ∷ bs) → (t ≡ true → begins_word rest ≡ false) → (if t then length (take_while is_word (b ∷ (bs ++ rest))) else sign_len b (bs ++ rest)) ≡ length (b ∷ bs)
    by_test true h w = run_whole (b ∷ bs) rest h (w refl)
    by_test false h w = sign_whole b bs rest h m

cut_whole : (w rest : List ℕ) → IsWhole w → (begins_word w ≡ true → begins_word rest ≡ false) → merges w rest ≡ false → cut 0 (w ++ rest) ≡ w ∷ cut 0 rest
unfolding cut
cut_whole [] rest i h m = absurd (omega (arith, i.some))
cut_whole (b ∷ bs) rest i h m =
    ap (λ t. if t then cut zero (bs ++ rest) else take (piece_len (b ∷ (bs ++ rest))) (b ∷ (bs ++ rest)) ∷ cut (piece_len (b ∷ (bs ++ rest)) - 1) (bs ++ rest)) i.no_blank
    ∙ ap (λ n. take n (b ∷ (bs ++ rest)) ∷ cut (n - 1) (bs ++ rest)) (whole_len b bs rest i.whole h m)
    ∙ ap (λ l. l ∷ cut (suc (length bs) - 1) (bs ++ rest)) (take-append_seam (b ∷ bs) rest)
    ∙ ap (λ n. (b ∷ bs) ∷ cut n (bs ++ rest)) {x = suc (length bs) - 1} {y = length bs} (omega arith)
    ∙ ap (λ l. (b ∷ bs) ∷ l) (cut_past bs rest)

-- what is written behind a word begins with no byte of a word
behind_word : (w : List ℕ) (more : List (List ℕ)) → StandApart w more → begins_word w ≡ true → begins_word (behind w more) ≡ false
behind_word w [] s h = refl
behind_word w ([] ∷ more) s h = absurd (omega (arith, s.1.some))
behind_word w ((c ∷ v) ∷ more) s h = by_tests (begins_word w) (is_word c) h refl
  where
    by_tests : (t u : Bool) → t ≡ true → is_word c ≡ u → begins_word ((if t && u then codes " " else []) ++ ((c ∷ v) ++ behind (c ∷ v) more)) ≡ false
    by_tests true true h e = refl
    by_tests true false h e = e
    by_tests false u h e = let f : false ≡ true = h in cc

behind_merges : (w : List ℕ) (more : List (List ℕ)) → StandApart w more → merges w (behind w more) ≡ false
behind_merges [] more s = refl
behind_merges (b ∷ b' ∷ w) more s = refl
behind_merges (b ∷ []) [] s = refl
behind_merges (b ∷ []) ([] ∷ more) s = absurd (omega (arith, s.1.some))
behind_merges (b ∷ []) ((c ∷ v) ∷ more) s = by_test (is_word b && is_word c)
  where
    by_test : (t : Bool) → merges (b ∷ []) ((if t then codes " " else []) ++ ((c ∷ v) ++ behind (c ∷ v) more)) ≡ false
    by_test true = refl
    by_test false = s.0

pub cut_behind : (last : List ℕ) (ws : List (List ℕ)) → StandApart last ws → cut 0 (behind last ws) ≡ ws
unfolding cut
cut_behind last [] s = refl
cut_behind last (w ∷ ws) s =
    by_test (begins_word last && begins_word w)
    ∙ cut_whole w (behind w ws) s.1 (behind_word w ws s.2) (behind_merges w ws s.2)
    ∙ ap (λ l. w ∷ l) (cut_behind w ws s.2)
  where
    by_test : (t : Bool) → cut 0 ((if t then codes " " else []) ++ (w ++ behind w ws)) ≡ cut 0 (w ++ behind w ws)
    by_test true = refl
    by_test false = refl

-- words that stand apart are cut again as they were written
pub joined_back : (ws : List (List ℕ)) → StandApart [] ws → words (joined ws) ≡ ws
joined_back ws s = words_cut (joined ws) ∙ cut_behind [] ws s

pub between_short : (w v : List ℕ) → length (between w v) ≤ 1
between_short w v = elim (begins_word w && begins_word v) as (λ t. length (if t then codes " " else []) ≤ 1) [ true ↦ omega arith | false ↦ omega arith ]

pub between_none : (w v : List ℕ) → (begins_word w ≡ true → begins_word v ≡ false) → length (between w v) ≡ 0
between_none w v h = by_tests (begins_word w) (begins_word v) h
  where
    by_tests : (t u : Bool) → (t ≡ true → u ≡ false) → length (if t && u then codes " " else []) ≡ 0
    by_tests true true h = let e : true ≡ false = h refl in cc
    by_tests true false h = refl
    by_tests false u h = refl

pub length_behind : (last w : List ℕ) (ws : List (List ℕ)) → length (behind last (w ∷ ws)) ≡ length (between last w) + (length w + length (behind w ws))
length_behind last w ws = length-append (between last w) (w ++ behind w ws) ∙ ap (λ n. length (between last w) + n) (length-append w (behind w ws))

-- what is written behind a word has at most one blank more than behind none
pub behind_any : (last other : List ℕ) (ws : List (List ℕ)) → begins_word other ≡ false → length (behind last ws) ≤ length (behind other ws) + 1
behind_any last other [] e = omega arith
behind_any last other (w ∷ ws) e = omega (arith, length_behind last w ws, length_behind other w ws, between_short last w)

front_word : (n b : ℕ) (bs : List ℕ) → 0 < n → begins_word (take n (b ∷ bs)) ≡ is_word b
front_word zero b bs h = absurd (omega (arith, h))
front_word (suc n) b bs h = refl

-- behind a word that was cut no word begins
word_done : (b : ℕ) (bs : List ℕ) → is_word b ≡ true → begins_word (drop (piece_len (b ∷ bs) - 1) bs) ≡ false
word_done b bs w =
    ap begins_word (back (piece_len (b ∷ bs)) (piece_some b bs).0)
    ∙ ap (λ t. begins_word (drop (if t then length (take_while is_word (b ∷ bs)) else sign_len b bs) (b ∷ bs))) w
    ∙ run_ends (b ∷ bs)
  where
    back : (n : ℕ) → 0 < n → drop (n - 1) bs ≡ drop n (b ∷ bs)
    back zero h = absurd (omega (arith, h))
    back (suc n) h = ap (λ k. drop k bs) {x = suc n - 1} {y = n} (omega arith)

shorter_cut : (skip : ℕ) (text last : List ℕ) → (begins_word last ≡ true → begins_word (drop skip text) ≡ false) → length (behind last (cut skip text)) ≤ length (drop skip text)
unfolding cut
shorter_cut zero [] last h = omega arith
shorter_cut (suc skip) [] last h = omega arith
shorter_cut (suc skip) (b ∷ bs) last h = shorter_cut skip bs last h
shorter_cut zero (b ∷ bs) last h =
    by_test (is_blank b)
    (shorter_cut zero bs [] (λ e. let f : false ≡ true = e in cc))
    (shorter_cut (piece_len (b ∷ bs) - 1) bs (take (piece_len (b ∷ bs)) (b ∷ bs)) (λ e. word_done b bs (sym (front_word (piece_len (b ∷ bs)) b bs (piece_some b bs).0) ∙ e)))
  where
    by_test : (t : Bool) → length (behind [] (cut zero bs)) ≤ length bs → length (behind (take (piece_len (b ∷ bs)) (b ∷ bs)) (cut (piece_len (b ∷ bs) - 1) bs)) ≤ length (drop (piece_len (b ∷ bs) - 1) bs)
        → length (behind last (if t then cut zero bs else take (piece_len (b ∷ bs)) (b ∷ bs) ∷ cut (piece_len (b ∷ bs) - 1) bs)) ≤ length (b ∷ bs)
    by_test true f g = omega (arith, f, behind_any last [] (cut zero bs) refl)
    by_test false f g =
        let n = piece_len (b ∷ bs) in
        omega (
          arith,
          g,
          piece_some b bs,
          length_behind last (take n (b ∷ bs)) (cut (n - 1) bs),
          length-take n (b ∷ bs),
          length-drop (n - 1) bs,
          between_none last (take n (b ∷ bs)) (λ e. front_word n b bs (piece_some b bs).0 ∙ h e),
        )

-- the words of a text are written in no more bytes than it has
pub joined_short : (text : List ℕ) → length (joined (words text)) ≤ length text
joined_short text = omega (arith, ap (λ ws. length (joined ws)) (words_cut text), shorter_cut 0 text [] (λ e. let f : false ≡ true = e in cc))

-- no word of a text is empty
cut_some : (skip : ℕ) (text : List ℕ) → AllByRecursion (λ w. 0 < length w) (cut skip text)
unfolding cut
cut_some skip [] = tt
cut_some (suc skip) (b ∷ bs) = cut_some skip bs
cut_some zero (b ∷ bs) = by_test (is_blank b) (cut_some zero bs) (cut_some (piece_len (b ∷ bs) - 1) bs)
  where
    some : (n : ℕ) → 0 < n → 0 < length (take n (b ∷ bs))
    some zero h = absurd (omega (arith, h))
    some (suc n) h = omega arith

    by_test : (t : Bool) → AllByRecursion (λ w. 0 < length w) (cut zero bs) → AllByRecursion (λ w. 0 < length w) (cut (piece_len (b ∷ bs) - 1) bs) → AllByRecursion (λ w. 0 < length w) (if t then cut zero bs else take (piece_len (b ∷ bs)) (b ∷ bs) ∷ cut (piece_len (b ∷ bs) - 1) bs)
    by_test true p q = p
    by_test false p q = (some (piece_len (b ∷ bs)) (piece_some b bs).0, q)

pub words_some : (text : List ℕ) → AllByRecursion (λ w. 0 < length w) (words text)
words_some text = subst (AllByRecursion (λ (w : List ℕ). 0 < length w)) (sym (words_cut text)) (cut_some 0 text)
