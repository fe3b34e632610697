-- The words of a writing that are scripts by themselves.
use Rattle.std.proofs.Common.{◌≡◌, ℕ, ◌+◌, Bool, true, false, [], ◌∷◌, ◌++◌}
use Rattle.std.specs.Prelude.{◌&&◌, nat_le, if◌then◌else◌}
use Rattle.std.specs.List.{AllByRecursion}
use Rattle.script_tree.specs.Tree.{Tree, Number, Constant, Input, Pick, Acc, Apply, Join, If}
use Rattle.script_tree.specs.Scripts.{all_leaves}
use Rattle.script_tree.specs.declared.expr.Unary.{Unary}
use Rattle.script_tree.specs.declared.expr.Binary.{Binary}
use Rattle.script_tree.proofs.Truths.{and_left, and_right}
use Rattle.script_tree.proofs.Lists.{all_append}
use Rattle.script_grammar.specs.declared.token.Word.{Word}
use Rattle.script_grammar.specs.declared.token.Word.TheVariants as word
use Rattle.script_grammar.specs.declared.token.Token.{Token}
use Rattle.script_grammar.specs.declared.token.Token.TheVariants.{Plain as W, Opens, Closes, IfWord, ThenWord, ElseWord}
use Rattle.script_grammar.specs.Grammar.{Written, Plain, Inside, Before, Between, Choice, level, left, binds, sign, prefix_sign, tokens, word_tree}
use Rattle.script_grammar.specs.Canonical.{put, canonical}

-- P holds of each word of a writing that is a script by itself
unfoldable pub AllWords : (Word → Type 0) → Written → Type 0
AllWords P (Plain word) = P word
AllWords P (Inside w) = AllWords P w
AllWords P (Before op w) = AllWords P w
AllWords P (Between op a b) = AllWords P a × AllWords P b
AllWords P (Choice c a b) = AllWords P c × AllWords P a × AllWords P b

put_words : (P : Word → Type 0) (l : ℕ) (w : Written) → AllWords P w → AllWords P (put l w)
unfolding AllWords
put_words P l w h = elim (nat_le l (level w)) as (λ b. AllWords P (if b then w else Inside w)) [ true ↦ h | false ↦ h ]

-- what holds of the leaves of a tree holds of the words of its canonical writing
pub canonical_words : (P : Word → Type 0) (test : Tree → Bool) → ((word : Word) → test (word_tree word) ≡ true → P word) → (t : Tree) → all_leaves test t ≡ true → AllWords P (canonical t)
unfolding AllWords
canonical_words P test f (Number z) h = f (word.Digits z) h
canonical_words P test f (Constant true) h = f word.Yes h
canonical_words P test f (Constant false) h = f word.No h
canonical_words P test f (Input i) h = f (word.Called i) h
canonical_words P test f (Pick i) h = f (word.Pick i) h
canonical_words P test f Acc h = f word.Acc h
canonical_words P test f (Apply op x) h = put_words P 7 (canonical x) (canonical_words P test f x h)
canonical_words P test f (Join op x y) h = (
  put_words P (left op) (canonical x) (canonical_words P test f x (and_left (all_leaves test x) (all_leaves test y) h)),
  put_words P (binds op + 1) (canonical y) (canonical_words P test f y (and_right (all_leaves test x) (all_leaves test y) h)),
)
canonical_words P test f (If c x y) h =
    let rest = and_right (all_leaves test c) (all_leaves test x && all_leaves test y) h in (
      canonical_words P test f c (and_left (all_leaves test c) (all_leaves test x && all_leaves test y) h),
      canonical_words P test f x (and_left (all_leaves test x) (all_leaves test y) rest),
      canonical_words P test f y (and_right (all_leaves test x) (all_leaves test y) rest),
    )

-- what holds of the words of a writing, and of all other tokens that a script may have, holds of its tokens
pub record OfTokens (P : Token → Type 0) : Type 0 where
  pub signs : (op : Binary) → P (sign op)
  pub marks : (op : Unary) → P (prefix_sign op)
  pub opens : P Opens
  pub closes : P Closes
  pub if_word : P IfWord
  pub then_word : P ThenWord
  pub else_word : P ElseWord

pub all_tokens : (P : Token → Type 0) → OfTokens P → (w : Written) → AllWords (λ word. P (W word)) w → AllByRecursion P (tokens w)
unfolding AllWords
all_tokens P f (Plain word) h = (h, tt)
all_tokens P f (Inside w) h = (f.opens, all_append P (tokens w) (Closes ∷ []) (all_tokens P f w h) (f.closes, tt))
all_tokens P f (Before op w) h = (f.marks op, all_tokens P f w h)
all_tokens P f (Between op a b) h = all_append P (tokens a) (sign op ∷ tokens b) (all_tokens P f a h.0) (f.signs op, all_tokens P f b h.1)
all_tokens P f (Choice c a b) h = (
  f.if_word,
  all_append P (tokens c) (ThenWord ∷ (tokens a ++ ElseWord ∷ tokens b)) (all_tokens P f c h.0)
      (f.then_word, all_append P (tokens a) (ElseWord ∷ tokens b) (all_tokens P f a h.1) (f.else_word, all_tokens P f b h.2)),
)

-- what holds of every word
pub any_words : (P : Word → Type 0) → ((word : Word) → P word) → (w : Written) → AllWords P w
unfolding AllWords
any_words P f (Plain word) = f word
any_words P f (Inside w) = any_words P f w
any_words P f (Before op w) = any_words P f w
any_words P f (Between op a b) = (any_words P f a, any_words P f b)
any_words P f (Choice c a b) = (any_words P f c, any_words P f a, any_words P f b)
