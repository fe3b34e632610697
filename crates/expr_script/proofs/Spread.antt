-- What is written of a script, before other words: the canonical writing is never longer.
use Rattle.std.proofs.Common.{◌≡◌, ℕ, ◌+◌, ◌<◌, ◌≤◌, Bool, true, false, List, [], ◌∷◌, ◌++◌, length, map, refl, sym, ap, ◌∙◌, subst, arith}
use Rattle.std.specs.Prelude.{nat_le, if◌then◌else◌}
use Rattle.script_grammar.specs.declared.token.Word.{Word}
use Rattle.script_grammar.specs.declared.token.Word.TheVariants.{Digits, Yes, No, Called, Pick as Picked, Acc as Old}
use Rattle.script_grammar.specs.declared.token.Token.{Token}
use Rattle.script_grammar.specs.declared.token.Token.TheVariants.{Plain as W, Opens, Closes, IfWord, ThenWord, ElseWord}
use Rattle.script_grammar.specs.Grammar.{Written, Plain, Inside, Before, Between, Choice, level, left, binds, IsScript, sign, prefix_sign, tokens, tree, word_tree}
use Rattle.script_grammar.specs.Canonical.{put, canonical}
use Rattle.script_grammar.proofs.Printing.{put_same}
use Rattle.script_tree.specs.Tree.{Apply, Join, If}
use Rattle.expr_script.specs.Cut.{begins_word}
use Rattle.expr_script.specs.Joined.{behind}
use Rattle.expr_script.specs.Printed.{token_text}
use Rattle.expr_script.proofs.CutBack.{length_behind, behind_any}

-- the words and signs of a writing, and others behind them
unfoldable pub spread : List (List ℕ) → Written → List (List ℕ) → List (List ℕ)
spread names (Plain word) more = token_text names (W word) ∷ more
spread names (Inside w) more = token_text names Opens ∷ spread names w (token_text names Closes ∷ more)
spread names (Before op w) more = token_text names (prefix_sign op) ∷ spread names w more
spread names (Between op a b) more = spread names a (token_text names (sign op) ∷ spread names b more)
spread names (Choice c a b) more = token_text names IfWord ∷ spread names c (token_text names ThenWord ∷ spread names a (token_text names ElseWord ∷ spread names b more))

map_on : (names : List (List ℕ)) (xs ys : List Token) (more : List (List ℕ)) → map (token_text names) xs ++ (map (token_text names) ys ++ more) ≡ map (token_text names) (xs ++ ys) ++ more
map_on names [] ys more = refl
map_on names (x ∷ xs) ys more = ap (λ l. token_text names x ∷ l) (map_on names xs ys more)

pub spread_is : (names : List (List ℕ)) (w : Written) (more : List (List ℕ)) → spread names w more ≡ map (token_text names) (tokens w) ++ more
unfolding spread
spread_is names (Plain word) more = refl
spread_is names (Inside w) more = ap (λ l. token_text names Opens ∷ l) (spread_is names w (token_text names Closes ∷ more) ∙ map_on names (tokens w) (Closes ∷ []) more)
spread_is names (Before op w) more = ap (λ l. token_text names (prefix_sign op) ∷ l) (spread_is names w more)
spread_is names (Between op a b) more =
    spread_is names a (token_text names (sign op) ∷ spread names b more)
    ∙ ap (λ l. map (token_text names) (tokens a) ++ (token_text names (sign op) ∷ l)) (spread_is names b more)
    ∙ map_on names (tokens a) (sign op ∷ tokens b) more
spread_is names (Choice c a b) more =
    ap (λ l. token_text names IfWord ∷ l)
    (spread_is names c (token_text names ThenWord ∷ spread names a (token_text names ElseWord ∷ spread names b more))
    ∙ ap (λ l. map (token_text names) (tokens c) ++ (token_text names ThenWord ∷ l))
    (spread_is names a (token_text names ElseWord ∷ spread names b more)
    ∙ ap (λ l. map (token_text names) (tokens a) ++ (token_text names ElseWord ∷ l)) (spread_is names b more)
    ∙ map_on names (tokens a) (ElseWord ∷ tokens b) more)
    ∙ map_on names (tokens c) (ThenWord ∷ (tokens a ++ ElseWord ∷ tokens b)) more)

-- words are written in no more bytes than others, whatever stands before them
pub record NoLonger (xs ys : List (List ℕ)) : Type 0 where
  pub bound : (last : List ℕ) → length (behind last xs) ≤ length (behind last ys)

pub chained : {xs ys zs : List (List ℕ)} → NoLonger xs ys → NoLonger ys zs → NoLonger xs zs
chained p q = record { bound = λ last. omega (arith, p.bound last, q.bound last) }

pub push : (w : List ℕ) {xs ys : List (List ℕ)} → NoLonger xs ys → NoLonger (w ∷ xs) (w ∷ ys)
push w {xs} {ys} p = record { bound = λ last. omega (arith, length_behind last w xs, length_behind last w ys, p.bound w) }

spread_more : (names : List (List ℕ)) (w : Written) {xs ys : List (List ℕ)} → NoLonger xs ys → NoLonger (spread names w xs) (spread names w ys)
unfolding spread
spread_more names (Plain word) p = push (token_text names (W word)) p
spread_more names (Inside w) p = push (token_text names Opens) (spread_more names w (push (token_text names Closes) p))
spread_more names (Before op w) p = push (token_text names (prefix_sign op)) (spread_more names w p)
spread_more names (Between op a b) p = spread_more names a (push (token_text names (sign op)) (spread_more names b p))
spread_more names (Choice c a b) p =
    push (token_text names IfWord) (spread_more names c (push (token_text names ThenWord) (spread_more names a (push (token_text names ElseWord) (spread_more names b p)))))

-- a sign takes the place of a blank
add_sign : (w : List ℕ) (xs : List (List ℕ)) → begins_word w ≡ false → 0 < length w → NoLonger xs (w ∷ xs)
add_sign w xs e some = record { bound = λ last. omega (arith, length_behind last w xs, behind_any last w xs e, some) }

unwrap : (names : List (List ℕ)) (v : Written) (more : List (List ℕ)) → NoLonger (spread names v more) (spread names (Inside v) more)
unfolding spread
unwrap names v more =
    chained (spread_more names v (add_sign (token_text names Closes) more refl (omega arith)))
    (add_sign (token_text names Opens) (spread names v (token_text names Closes ∷ more)) refl (omega arith))

word_canonical : (word : Word) → canonical (word_tree word) ≡ Plain word
word_canonical (Digits z) = refl
word_canonical Yes = refl
word_canonical No = refl
word_canonical (Called i) = refl
word_canonical (Picked i) = refl
word_canonical Old = refl

same_written : (names : List (List ℕ)) (v u : Written) (more ys : List (List ℕ)) → v ≡ u → NoLonger (spread names u more) ys → NoLonger (spread names v more) ys
same_written names v u more ys e p = subst (λ (x : Written). NoLonger (spread names x more) ys) (sym e) p

itself : (xs : List (List ℕ)) → NoLonger xs xs
itself xs = record { bound = λ last. omega arith }

-- the canonical writing at each level is no longer
pub placed : (names : List (List ℕ)) (w : Written) (l : ℕ) (more : List (List ℕ)) → IsScript w → l ≤ level w → NoLonger (spread names (put l (canonical (tree w))) more) (spread names w more)
unfolding spread
placed names (Plain word) l more g h =
    same_written names (put l (canonical (word_tree word))) (Plain word) more _ (ap (put l) (word_canonical word) ∙ put_same l (Plain word) h) (itself (spread names (Plain word) more))
placed names (Inside w) l more g h = by_level (nat_le l (level (canonical (tree w))))
    (same_written names (canonical (tree w)) (put 0 (canonical (tree w))) (token_text names Closes ∷ more) _ (sym (put_same 0 (canonical (tree w)) (omega arith))) (placed names w 0 (token_text names Closes ∷ more) g (omega arith)))
  where
    by_level : (t : Bool) → NoLonger (spread names (canonical (tree w)) (token_text names Closes ∷ more)) (spread names w (token_text names Closes ∷ more)) → NoLonger (spread names (if t then canonical (tree w) else Inside (canonical (tree w))) more) (spread names (Inside w) more)
    by_level true p = chained (unwrap names (canonical (tree w)) more) (push (token_text names Opens) p)
    by_level false p = push (token_text names Opens) p
placed names (Before op w) l more g h =
    same_written names (put l (canonical (Apply op (tree w)))) (canonical (Apply op (tree w))) more _ (put_same l (canonical (Apply op (tree w))) h)
    (push (token_text names (prefix_sign op)) (placed names w 7 more g.1 g.0))
placed names (Between op a b) l more g h =
    same_written names (put l (canonical (Join op (tree a) (tree b)))) (canonical (Join op (tree a) (tree b))) more _ (put_same l (canonical (Join op (tree a) (tree b))) h)
    (chained
    (spread_more names (put (left op) (canonical (tree a))) (push (token_text names (sign op)) (placed names b (binds op + 1) more g.3 (omega (arith, g.1)))))
    (placed names a (left op) (token_text names (sign op) ∷ spread names b more) g.2 g.0))
placed names (Choice c a b) l more g h =
    let low = λ (w : Written) (m ys : List (List ℕ)) (p : NoLonger (spread names (put 0 (canonical (tree w))) m) ys). same_written names (canonical (tree w)) (put 0 (canonical (tree w))) m ys (sym (put_same 0 (canonical (tree w)) (omega arith))) p in
    same_written names (put l (canonical (If (tree c) (tree a) (tree b)))) (canonical (If (tree c) (tree a) (tree b))) more _ (put_same l (canonical (If (tree c) (tree a) (tree b))) h)
    (push (token_text names IfWord)
    (chained
    (spread_more names (canonical (tree c)) (push (token_text names ThenWord)
    (chained
    (spread_more names (canonical (tree a)) (push (token_text names ElseWord) (low b more (spread names b more) (placed names b 0 more g.2 (omega arith)))))
    (low a (token_text names ElseWord ∷ spread names b more) (spread names a (token_text names ElseWord ∷ spread names b more)) (placed names a 0 (token_text names ElseWord ∷ spread names b more) g.1 (omega arith))))))
    (low c (token_text names ThenWord ∷ spread names a (token_text names ElseWord ∷ spread names b more)) (spread names c (token_text names ThenWord ∷ spread names a (token_text names ElseWord ∷ spread names b more))) (placed names c 0 (token_text names ThenWord ∷ spread names a (token_text names ElseWord ∷ spread names b more)) g.0 (omega arith)))))

-- the canonical words of a tree are no longer than any others that spell it
pub canonical_no_longer : (names : List (List ℕ)) (w : Written) (more : List (List ℕ)) → IsScript w → NoLonger (spread names (canonical (tree w)) more) (spread names w more)
canonical_no_longer names w more g =
    same_written names (canonical (tree w)) (put 0 (canonical (tree w))) more _ (sym (put_same 0 (canonical (tree w)) (omega arith))) (placed names w 0 more g (omega arith))
