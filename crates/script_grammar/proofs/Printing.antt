-- The canonical writing is a script, has its tree, and is the shortest.
use Rattle.std.proofs.Common.{◌≡◌, ℕ, ◌+◌, ◌≤◌, Bool, true, false, [], ◌∷◌, ◌++◌, length, refl, ap, ◌∙◌, arith, length-append}
use Rattle.std.specs.Prelude.{nat_le, if◌then◌else◌}
use Rattle.std.proofs.lemmas.Bool.{leb-true, le-leb}
use Rattle.script_tree.specs.Tree.{Tree, Number, Constant, Input, Pick, Acc, Apply, Join, If}
use Rattle.script_grammar.specs.declared.token.Word.{Word}
use Rattle.script_grammar.specs.declared.token.Word.TheVariants.{Digits, Yes, No, Called, Pick as Picked, Acc as Old}
use Rattle.script_grammar.specs.Grammar.{Written, Plain, Inside, Before, Between, Choice, level, left, binds, IsScript, sign, tokens, tree, word_tree}
use Rattle.script_grammar.specs.declared.token.Token.TheVariants.{Closes, ThenWord, ElseWord}
use Rattle.script_tree.specs.declared.expr.Binary.{Binary}
use Rattle.script_grammar.proofs.Complete.{binds_within}
use Rattle.script_grammar.proofs.Agreement.{left_small}
use Rattle.script_grammar.specs.Canonical.{put, canonical}

put_tree : (l : ℕ) (w : Written) → tree (put l w) ≡ tree w
put_tree l w = elim (nat_le l (level w)) as (λ b. tree (if b then w else Inside w) ≡ tree w) [ true ↦ refl | false ↦ refl ]

put_script : (l : ℕ) (w : Written) → IsScript w → IsScript (put l w)
put_script l w g = elim (nat_le l (level w)) as (λ b. IsScript (if b then w else Inside w)) [ true ↦ g | false ↦ g ]

put_level : (l : ℕ) (w : Written) → l ≤ 8 → l ≤ level (put l w)
put_level l w h = by_test (nat_le l (level w)) refl
  where
    by_test : (b : Bool) → nat_le l (level w) ≡ b → l ≤ level (if b then w else Inside w)
    by_test true e = leb-true l (level w) e
    by_test false e = h

small : (op : Binary) → (left op ≤ 8) × (binds op + 1 ≤ 8)
small op = let w = binds_within op in ((let h = left_small op in omega (arith, h)), omega (arith, w.1))

pub canonical_tree : (t : Tree) → tree (canonical t) ≡ t
canonical_tree (Number z) = refl
canonical_tree (Constant true) = refl
canonical_tree (Constant false) = refl
canonical_tree (Input i) = refl
canonical_tree (Pick i) = refl
canonical_tree Acc = refl
canonical_tree (Apply op x) = ap (Apply op) (put_tree 7 (canonical x) ∙ canonical_tree x)
canonical_tree (Join op x y) = ap (λ z. Join op z (tree (put (binds op + 1) (canonical y)))) (put_tree (left op) (canonical x) ∙ canonical_tree x) ∙ ap (Join op x) (put_tree (binds op + 1) (canonical y) ∙ canonical_tree y)
canonical_tree (If c x y) = ap (λ z. If z (tree (canonical x)) (tree (canonical y))) (canonical_tree c) ∙ ap (λ z. If c z (tree (canonical y))) (canonical_tree x) ∙ ap (If c x) (canonical_tree y)

pub canonical_script : (t : Tree) → IsScript (canonical t)
canonical_script (Number z) = tt
canonical_script (Constant true) = tt
canonical_script (Constant false) = tt
canonical_script (Input i) = tt
canonical_script (Pick i) = tt
canonical_script Acc = tt
canonical_script (Apply op x) = (put_level 7 (canonical x) (omega arith), put_script 7 (canonical x) (canonical_script x))
canonical_script (Join op x y) =
    let s = small op in
    (put_level (left op) (canonical x) s.0, (let h = put_level (binds op + 1) (canonical y) s.1 in omega (arith, h)), put_script (left op) (canonical x) (canonical_script x), put_script (binds op + 1) (canonical y) (canonical_script y))
canonical_script (If c x y) = (canonical_script c, canonical_script x, canonical_script y)

-- where the place's level is low enough, nothing is put round it
pub put_same : (l : ℕ) (w : Written) → l ≤ level w → put l w ≡ w
put_same l w h = ap (λ b. if b then w else Inside w) (le-leb l (level w) h)

put_longer : (l : ℕ) (w : Written) → length (tokens (put l w)) ≤ length (tokens w) + 2
put_longer l w = elim (nat_le l (level w)) as (λ b. length (tokens (if b then w else Inside w)) ≤ length (tokens w) + 2) [ true ↦ omega arith | false ↦ omega (arith, length-append (tokens w) (Closes ∷ [])) ]

word_canonical : (word : Word) → length (tokens (canonical (word_tree word))) ≡ 1
word_canonical (Digits z) = refl
word_canonical Yes = refl
word_canonical No = refl
word_canonical (Called i) = refl
word_canonical (Picked i) = refl
word_canonical Old = refl

pub word_level : (word : Word) → level (canonical (word_tree word)) ≡ 8
word_level (Digits z) = refl
word_level Yes = refl
word_level No = refl
word_level (Called i) = refl
word_level (Picked i) = refl
word_level Old = refl

-- no writing of a tree is shorter than the canonical one, at each level
pub placed : (w : Written) (l : ℕ) → IsScript w → l ≤ level w → length (tokens (put l (canonical (tree w)))) ≤ length (tokens w)
placed (Plain word) l g h =
    omega (arith, word_canonical word, ap (λ v. length (tokens v)) (put_same l (canonical (word_tree word)) (omega (arith, word_level word))))
placed (Inside w) l g h =
    let x = canonical (tree w) in
    omega (arith, put_longer l x, placed w 0 g (omega arith), ap (λ v. length (tokens v)) (put_same 0 x (omega arith)), length-append (tokens w) (Closes ∷ []))
placed (Before op w) l g h =
    omega (arith, placed w 7 g.1 g.0, ap (λ v. length (tokens v)) (put_same l (canonical (Apply op (tree w))) h))
placed (Between op a b) l g h =
    omega (arith, placed a (left op) g.2 g.0, placed b (binds op + 1) g.3 (omega (arith, g.1)), ap (λ v. length (tokens v)) (put_same l (canonical (Join op (tree a) (tree b))) h), length-append (tokens a) (sign op ∷ tokens b), length-append (tokens (put (left op) (canonical (tree a)))) (sign op ∷ tokens (put (binds op + 1) (canonical (tree b)))))
placed (Choice c a b) l g h =
    let zero = λ (w : Written). put_same 0 (canonical (tree w)) (omega arith) in
    omega (
      arith,
      placed c 0 g.0 (omega arith),
      placed a 0 g.1 (omega arith),
      placed b 0 g.2 (omega arith),
      ap (λ v. length (tokens v)) (zero c),
      ap (λ v. length (tokens v)) (zero a),
      ap (λ v. length (tokens v)) (zero b),
      ap (λ v. length (tokens v)) (put_same l (canonical (If (tree c) (tree a) (tree b))) h),
      length-append (tokens c) (ThenWord ∷ (tokens a ++ ElseWord ∷ tokens b)),
      length-append (tokens a) (ElseWord ∷ tokens b),
      length-append (tokens (canonical (tree c))) (ThenWord ∷ (tokens (canonical (tree a)) ++ ElseWord ∷ tokens (canonical (tree b)))),
      length-append (tokens (canonical (tree a))) (ElseWord ∷ tokens (canonical (tree b))),
    )

pub shortest : (w : Written) → IsScript w → length (tokens (canonical (tree w))) ≤ length (tokens w)
shortest w g = omega (arith, placed w 0 g (omega arith), ap (λ v. length (tokens v)) (put_same 0 (canonical (tree w)) (omega arith)))
