-- The canonical text of a tree nests no deeper than any text that spells it.
use Rattle.std.proofs.Common.{◌≡◌, ℕ, zero, suc, ◌+◌, ◌<◌, ◌≤◌, List, [], ◌∷◌, ◌++◌, length, refl, sym, ap, ◌∙◌, arith}
use Rattle.std.specs.Prelude.{nat_le, if◌then◌else◌, true, false, max, slice_index}
use Rattle.std.proofs.lemmas.List.{append-nil}
use Rattle.script_tree.specs.Tree.{Tree, Apply, Join, If}
use Rattle.script_grammar.specs.declared.token.Word.{Word}
use Rattle.script_grammar.specs.declared.token.Word.TheVariants.{Digits, Yes, No, Called, Pick as Picked, Acc as Old}
use Rattle.script_grammar.specs.declared.token.Token.{Token}
use Rattle.script_grammar.specs.Grammar.{Written, Plain, Inside, Before, Between, Choice, tokens, tree, word_tree, level, left, binds, IsScript, Spells, BeginsWithin, nested}
use Rattle.script_grammar.specs.Canonical.{put, canonical}
use Rattle.script_grammar.proofs.Printing.{canonical_script, put_same, word_level}
use Rattle.script_grammar.proofs.Depths.{nests_length, one_nesting}
use Rattle.script_grammar.proofs.Nesting.{nests_are, reading}
use Rattle.script_grammar.proofs.Places.{start}

-- how deep the parts of a writing are nested in it
abbrev depth : Written → ℕ
depth (Plain word) = 0
depth (Inside w) = depth w + 1
depth (Before op w) = depth w + 1
depth (Between op a b) = max (depth a) (depth b)
depth (Choice c a b) = max (depth c) (max (depth a) (depth b)) + 1

abbrev AllAtMost : ℕ → List ℕ → Type 0
AllAtMost n [] = Unit {0}
AllAtMost n (x ∷ xs) = (x ≤ n) × AllAtMost n xs

joined : (n : ℕ) (a b : List ℕ) → AllAtMost n a → AllAtMost n b → AllAtMost n (a ++ b)
joined n [] b h k = k
joined n (x ∷ a) b h k = (h.0, joined n a b h.1 k)

first_part : (n : ℕ) (a b : List ℕ) → AllAtMost n (a ++ b) → AllAtMost n a
first_part n [] b h = tt
first_part n (x ∷ a) b h = (h.0, first_part n a b h.1)

last_part : (n : ℕ) (a b : List ℕ) → AllAtMost n (a ++ b) → AllAtMost n b
last_part n [] b h = h
last_part n (x ∷ a) b h = last_part n a b h.1

deepest : (n d : ℕ) (w : Written) → AllAtMost n (nested d w) → d + depth w ≤ n
deepest n d (Plain word) h = omega (arith, h.0)
deepest n d (Inside w) h = omega (arith, deepest n (d + 1) w (first_part n (nested (d + 1) w) _ h.1))
deepest n d (Before op w) h = omega (arith, deepest n (d + 1) w h.1)
deepest n d (Between op a b) h =
    omega (arith, deepest n d a (first_part n (nested d a) _ h), deepest n d b (last_part n (nested d a) _ h).1)
deepest n d (Choice c a b) h =
    let rest = (last_part n (nested (d + 1) c) _ h.1).1 in
    omega (
      arith,
      deepest n (d + 1) c (first_part n (nested (d + 1) c) _ h.1),
      deepest n (d + 1) a (first_part n (nested (d + 1) a) _ rest),
      deepest n (d + 1) b (last_part n (nested (d + 1) a) _ rest).1,
    )

all_shallow : (n d : ℕ) (w : Written) → d + depth w ≤ n → AllAtMost n (nested d w)
all_shallow n d (Plain word) h = (omega arith, tt)
all_shallow n d (Inside w) h = (omega arith, joined n (nested (d + 1) w) _ (all_shallow n (d + 1) w (omega arith)) (omega arith, tt))
all_shallow n d (Before op w) h = (omega arith, all_shallow n (d + 1) w (omega arith))
all_shallow n d (Between op a b) h = joined n (nested d a) _ (all_shallow n d a (omega arith)) (omega arith, all_shallow n d b (omega arith))
all_shallow n d (Choice c a b) h =
    (omega arith, joined n (nested (d + 1) c) _ (all_shallow n (d + 1) c (omega arith)) (omega arith, joined n (nested (d + 1) a) _ (all_shallow n (d + 1) a (omega arith)) (omega arith, all_shallow n (d + 1) b (omega arith))))

at_index : (n : ℕ) (xs : List ℕ) → AllAtMost n xs → (j : ℕ) → slice_index xs j ≤ n
at_index n [] h j = omega arith
at_index n (x ∷ xs) h zero = h.0
at_index n (x ∷ xs) h (suc j) = at_index n xs h.1 j

from_index : (n : ℕ) (xs : List ℕ) → ((j : ℕ) → j < length xs → slice_index xs j ≤ n) → AllAtMost n xs
from_index n [] h = tt
from_index n (x ∷ xs) h = (h 0 (omega arith), from_index n xs (λ j k. h (suc j) (omega arith)))

put_deeper : (l : ℕ) (w : Written) → depth (put l w) ≤ depth w + 1
put_deeper l w = elim (nat_le l (level w)) as (λ b. depth (if b then w else Inside w) ≤ depth w + 1) [ true ↦ omega arith | false ↦ omega arith ]

word_depth : (word : Word) → depth (canonical (word_tree word)) ≡ 0
word_depth (Digits z) = refl
word_depth Yes = refl
word_depth No = refl
word_depth (Called i) = refl
word_depth (Picked i) = refl
word_depth Old = refl

-- no writing of a tree nests less deep than the canonical one, at each level
placed : (w : Written) (l : ℕ) → IsScript w → l ≤ level w → depth (put l (canonical (tree w))) ≤ depth w
placed (Plain word) l g h =
    omega (arith, word_depth word, ap depth (put_same l (canonical (word_tree word)) (omega (arith, word_level word))))
placed (Inside w) l g h =
    let x = canonical (tree w) in
    omega (arith, put_deeper l x, placed w 0 g (omega arith), ap depth (put_same 0 x (omega arith)))
placed (Before op w) l g h =
    omega (arith, placed w 7 g.1 g.0, ap depth (put_same l (canonical (Apply op (tree w))) h))
placed (Between op a b) l g h =
    omega (arith, placed a (left op) g.2 g.0, placed b (binds op + 1) g.3 (omega (arith, g.1)), ap depth (put_same l (canonical (Join op (tree a) (tree b))) h))
placed (Choice c a b) l g h =
    let zero = λ (w : Written). put_same 0 (canonical (tree w)) (omega arith) in
    omega (
      arith,
      placed c 0 g.0 (omega arith),
      placed a 0 g.1 (omega arith),
      placed b 0 g.2 (omega arith),
      ap depth (zero c),
      ap depth (zero a),
      ap depth (zero b),
      ap depth (put_same l (canonical (If (tree c) (tree a) (tree b))) h),
    )

nested_length : (w : Written) → IsScript w → length (nested 0 w) ≡ length (tokens w)
nested_length w g = ap length (sym (nests_are w g)) ∙ nests_length (tokens w) start _ (reading w [] g (omega arith) (λ x. refl)).reads

depth_within : (limit : ℕ) (text : List Token) (t : Tree) (h : Spells text t) → BeginsWithin limit text → depth h.written ≤ limit
depth_within limit text t h b =
    let same : tokens h.written ≡ text ++ [] = h.same ∙ sym (append-nil text) in
    let alike = one_nesting h.written b.written h.grammar b.grammar text [] b.more same b.same in
    let count = nested_length h.written h.grammar ∙ ap length h.same in
    omega (
      arith,
      deepest limit 0 h.written (from_index limit (nested 0 h.written) (λ j k.
          let within : j < length text = omega (arith, count) in
          let eq = alike j within in
          omega (arith, eq, b.shallow j within))),
    )

pub canonical_shallow : (limit : ℕ) (text : List Token) (t : Tree) → Spells text t → BeginsWithin limit text → BeginsWithin limit (tokens (canonical t))
canonical_shallow limit text t h b =
    let within : depth (canonical t) ≤ limit = omega (
      arith,
      depth_within limit text t h b,
      placed h.written 0 h.grammar (omega arith),
      ap depth (put_same 0 (canonical (tree h.written)) (omega arith)),
      ap (λ u. depth (canonical u)) h.tree_is,
    ) in
    record {
      written = canonical t;
      grammar = canonical_script t;
      more = [];
      same = sym (append-nil (tokens (canonical t)));
      shallow = λ j k. at_index limit (nested 0 (canonical t)) (all_shallow limit 0 (canonical t) (omega arith)) j;
    }
