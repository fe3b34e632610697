-- The grammar of scripts: what is written, token by token, and the tree that it spells.
use Rattle.std.specs.Prelude.{◌≡◌, ℕ, ◌+◌, ◌<◌, ◌≤◌, true, false, ◌==◌, if◌then◌else◌, List, [], ◌∷◌, ◌++◌, take, length, slice_index}
use Rattle.script_tree.specs.declared.expr.Unary.{Unary}
use Rattle.script_tree.specs.declared.expr.Unary.TheVariants.{Negate, Not}
use Rattle.script_tree.specs.declared.expr.Binary.{Binary}
use Rattle.script_tree.specs.declared.expr.Binary.TheVariants.{OrElse, Or, And, Equal, Unequal, Less, AtMost, Greater}
use Rattle.script_tree.specs.declared.expr.Binary.TheVariants.{AtLeast, Add, Subtract, Multiply, Divide, Remainder}
use Rattle.script_grammar.specs.declared.token.Word.{Word}
use Rattle.script_grammar.specs.declared.token.Word.TheVariants.{Digits, Yes, No, Called, Pick as Picked, Acc as Old}
use Rattle.script_grammar.specs.declared.token.Token.{Token}
use Rattle.script_grammar.specs.declared.token.Token.TheVariants.{Plain as W, Sign, Minus, Bang, Opens, Closes, IfWord, ThenWord, ElseWord}
use Rattle.script_tree.specs.Tree.{Tree, Number, Constant, Input, Pick, Acc, Apply, Join, If}

-- the tree of a word that is a script by itself
abbrev pub word_tree : Word → Tree
word_tree (Digits z) = Number z
word_tree Yes = Constant true
word_tree No = Constant false
word_tree (Called i) = Input i
word_tree (Picked i) = Pick i
word_tree Old = Acc

-- the token of an operator between two sides: a minus sign is the same token on one side or two
abbrev pub sign : Binary → Token
sign Subtract = Minus
sign op = Sign op

-- the token of an operator before its operand
abbrev pub prefix_sign : Unary → Token
prefix_sign Negate = Minus
prefix_sign Not = Bang

-- a script as it is written, with its parentheses
pub data Written : Type 0 where
  Plain : (word : Word) → Written
  Inside : (w : Written) → Written
  Before : (op : Unary) (w : Written) → Written
  Between : (op : Binary) (a b : Written) → Written
  Choice : (c a b : Written) → Written

-- its tokens
abbrev pub tokens : Written → List Token
tokens (Plain word) = W word ∷ []
tokens (Inside w) = Opens ∷ (tokens w ++ Closes ∷ [])
tokens (Before op w) = prefix_sign op ∷ tokens w
tokens (Between op a b) = tokens a ++ sign op ∷ tokens b
tokens (Choice c a b) = IfWord ∷ (tokens c ++ ThenWord ∷ (tokens a ++ ElseWord ∷ tokens b))

-- its tree, in which parentheses leave no node
abbrev pub tree : Written → Tree
tree (Plain word) = word_tree word
tree (Inside w) = tree w
tree (Before op w) = Apply op (tree w)
tree (Between op a b) = Join op (tree a) (tree b)
tree (Choice c a b) = If (tree c) (tree a) (tree b)

-- the levels: 0 expr, 1 alt, 2 or, 3 and, 4 cmp, 5 sum, 6 term, 7 unary, 8 atom
abbrev pub binds : Binary → ℕ
binds OrElse = 1
binds Or = 2
binds And = 3
binds Equal = 4
binds Unequal = 4
binds Less = 4
binds AtMost = 4
binds Greater = 4
binds AtLeast = 4
binds Add = 5
binds Subtract = 5
binds Multiply = 6
binds Divide = 6
binds Remainder = 6

-- the level that an operator's left side needs: its own, but a comparison has a sum on both sides
abbrev pub left : Binary → ℕ
left op = if binds op == 4 then 5 else binds op

-- the level of what is written
abbrev pub level : Written → ℕ
level (Plain word) = 8
level (Inside w) = 8
level (Before op w) = 7
level (Between op a b) = binds op
level (Choice c a b) = 0

-- each part stands at the level that its place needs
abbrev pub IsScript : Written → Type 0
IsScript (Plain word) = Unit {0}
IsScript (Inside w) = IsScript w
IsScript (Before op w) = (7 ≤ level w) × IsScript w
IsScript (Between op a b) = (left op ≤ level a) × (binds op < level b) × IsScript a × IsScript b
IsScript (Choice c a b) = IsScript c × IsScript a × IsScript b

-- a text's tokens spell a tree
pub record Spells (text : List Token) (t : Tree) : Type 0 where
  pub written : Written
  pub grammar : IsScript written
  pub same : tokens written ≡ text
  pub tree_is : tree written ≡ t

-- some script begins with these tokens
pub record Begins (text : List Token) : Type 0 where
  pub written : Written
  pub grammar : IsScript written
  pub more : List Token
  pub same : tokens written ≡ text ++ more

-- the first token such that no script begins with the tokens up to it
pub record FirstFault (text : List Token) (k : ℕ) : Type 0 where
  pub within : k < length text
  pub before : Begins (take k text)
  pub here : Begins (take (k + 1) text) → ⊥

-- where a text that is no script goes wrong: at the first token such that no script begins with the tokens up to
-- it, or at the end, where a script goes on
pub record IsSyntaxAt (text : List Token) (k : ℕ) : Type 0 where
  pub within : k ≤ length text
  pub before : Begins (take k text)
  pub here : k < length text → Begins (take (k + 1) text) → ⊥
  pub none : (t : Tree) → Spells text t → ⊥

-- the nesting of each token: how many parentheses, prefix operators and choices began before it and haven't ended
abbrev pub nested : ℕ → Written → List ℕ
nested d (Plain word) = d ∷ []
nested d (Inside w) = d ∷ (nested (d + 1) w ++ (d + 1) ∷ [])
nested d (Before op w) = d ∷ nested (d + 1) w
nested d (Between op a b) = nested d a ++ d ∷ nested d b
nested d (Choice c a b) = d ∷ (nested (d + 1) c ++ (d + 1) ∷ (nested (d + 1) a ++ (d + 1) ∷ nested (d + 1) b))

-- some script begins with these tokens, and none of them is nested above a limit
pub record BeginsWithin (limit : ℕ) (text : List Token) : Type 0 where
  pub written : Written
  pub grammar : IsScript written
  pub more : List Token
  pub same : tokens written ≡ text ++ more
  pub shallow : (j : ℕ) → j < length text → slice_index (nested 0 written) j ≤ limit

-- the first token whose nesting is above a limit, in a text that some script begins with up to it
pub record IsTooDeepAt (limit : ℕ) (text : List Token) (k : ℕ) : Type 0 where
  pub within : k < length text
  pub written : Written
  pub grammar : IsScript written
  pub more : List Token
  pub same : tokens written ≡ take (k + 1) text ++ more
  pub deep : limit < slice_index (nested 0 written) k
  pub first : (j : ℕ) → j < k → slice_index (nested 0 written) j ≤ limit
