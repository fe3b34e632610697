-- The leaves of a tree are the words of each text that spells it.
use Rattle.std.proofs.Common.{◌≡◌, Bool, List, [], ◌∷◌, ◌++◌, refl, sym, ap, ◌∙◌}
use Rattle.std.specs.Prelude.{◌&&◌}
use Rattle.std.proofs.Math.Bool.{and-true, and_assoc}
use Rattle.script_tree.specs.declared.expr.Unary.{Unary}
use Rattle.script_tree.specs.declared.expr.Unary.TheVariants.{Negate, Not}
use Rattle.script_tree.specs.declared.expr.Binary.{Binary}
use Rattle.script_tree.specs.declared.expr.Binary.TheVariants.{OrElse, Or, And, Equal, Unequal, Less, AtMost, Greater, AtLeast, Add, Subtract, Multiply, Divide, Remainder}
use Rattle.script_tree.specs.Tree.{Tree}
use Rattle.script_tree.specs.Scripts.{all_leaves}
use Rattle.script_grammar.specs.declared.token.Word.{Word}
use Rattle.script_grammar.specs.declared.token.Word.TheVariants.{Digits, Yes, No, Called, Pick as Picked, Acc as Old}
use Rattle.script_grammar.specs.declared.token.Token.{Token}
use Rattle.script_grammar.specs.declared.token.Token.TheVariants.{Plain as W, Sign, Minus, Bang, Opens, Closes, IfWord, ThenWord, ElseWord, Stray}
use Rattle.script_grammar.specs.Grammar.{Written, Plain, Inside, Before, Between, Choice, tokens, tree, word_tree, sign, prefix_sign, Spells}
use Rattle.script_grammar.specs.Words.{all_words}

words_append : (f : Word → Bool) (a b : List Token) → all_words f (a ++ b) ≡ (all_words f a && all_words f b)
words_append f [] b = refl
words_append f (W word ∷ a) b = ap (λ z. f word && z) (words_append f a b) ∙ sym (and_assoc (f word) (all_words f a) (all_words f b))
words_append f (Sign op ∷ a) b = words_append f a b
words_append f (Minus ∷ a) b = words_append f a b
words_append f (Bang ∷ a) b = words_append f a b
words_append f (Opens ∷ a) b = words_append f a b
words_append f (Closes ∷ a) b = words_append f a b
words_append f (IfWord ∷ a) b = words_append f a b
words_append f (ThenWord ∷ a) b = words_append f a b
words_append f (ElseWord ∷ a) b = words_append f a b
words_append f (Stray ∷ a) b = words_append f a b

word_leaf : (test : Tree → Bool) (word : Word) → all_leaves test (word_tree word) ≡ test (word_tree word)
word_leaf test (Digits z) = refl
word_leaf test Yes = refl
word_leaf test No = refl
word_leaf test (Called i) = refl
word_leaf test (Picked i) = refl
word_leaf test Old = refl

past_sign : (f : Word → Bool) (op : Binary) (ts : List Token) → all_words f (sign op ∷ ts) ≡ all_words f ts
past_sign f OrElse ts = refl
past_sign f Or ts = refl
past_sign f And ts = refl
past_sign f Equal ts = refl
past_sign f Unequal ts = refl
past_sign f Less ts = refl
past_sign f AtMost ts = refl
past_sign f Greater ts = refl
past_sign f AtLeast ts = refl
past_sign f Add ts = refl
past_sign f Subtract ts = refl
past_sign f Multiply ts = refl
past_sign f Divide ts = refl
past_sign f Remainder ts = refl

past_mark : (f : Word → Bool) (op : Unary) (ts : List Token) → all_words f (prefix_sign op ∷ ts) ≡ all_words f ts
past_mark f Negate ts = refl
past_mark f Not ts = refl

pub written_leaves : (test : Tree → Bool) (w : Written) → all_leaves test (tree w) ≡ all_words (λ word. test (word_tree word)) (tokens w)
written_leaves test (Plain word) = word_leaf test word ∙ sym (and-true (test (word_tree word)))
written_leaves test (Inside w) =
    let f = λ (word : Word). test (word_tree word) in
    written_leaves test w ∙ sym (and-true (all_words f (tokens w))) ∙ sym (words_append f (tokens w) (Closes ∷ []))
written_leaves test (Before op w) =
    let f = λ (word : Word). test (word_tree word) in
    written_leaves test w ∙ sym (past_mark f op (tokens w))
written_leaves test (Between op a b) =
    let f = λ (word : Word). test (word_tree word) in
    ap (λ z. z && all_leaves test (tree b)) (written_leaves test a)
    ∙ ap (λ z. all_words f (tokens a) && z) (written_leaves test b ∙ sym (past_sign f op (tokens b)))
    ∙ sym (words_append f (tokens a) (sign op ∷ tokens b))
written_leaves test (Choice c a b) =
    let f = λ (word : Word). test (word_tree word) in
    let last = ElseWord ∷ tokens b in
    ap (λ z. z && (all_leaves test (tree a) && all_leaves test (tree b))) (written_leaves test c)
    ∙ ap (λ z. all_words f (tokens c) && (z && all_leaves test (tree b))) (written_leaves test a)
    ∙ ap (λ z. all_words f (tokens c) && (all_words f (tokens a) && z)) (written_leaves test b)
    ∙ ap (λ z. all_words f (tokens c) && z) (sym (words_append f (tokens a) last))
    ∙ sym (words_append f (tokens c) (ThenWord ∷ (tokens a ++ last)))

-- a test holds of all leaves of a tree exactly where it holds of all words of a text that spells it
pub leaves_are_words : (test : Tree → Bool) (text : List Token) (t : Tree) → Spells text t → all_leaves test t ≡ all_words (λ word. test (word_tree word)) text
leaves_are_words test text t h =
    ap (all_leaves test) (sym h.tree_is) ∙ written_leaves test h.written ∙ ap (all_words (λ word. test (word_tree word))) h.same
