-- Reading tokens one by one, with a stack of what is begun.
use Rattle.std.specs.Prelude.{ℕ, ◌+◌, nat_le, if◌then◌else◌, List, [], ◌∷◌, Option, Some, None}
use Rattle.script_tree.specs.declared.expr.Unary.{Unary}
use Rattle.script_tree.specs.declared.expr.Unary.TheVariants.{Negate, Not}
use Rattle.script_tree.specs.declared.expr.Binary.{Binary}
use Rattle.script_tree.specs.declared.expr.Binary.TheVariants.{Subtract}
use Rattle.script_tree.specs.Tree.{Tree, Apply, Join, If}
use Rattle.script_grammar.specs.declared.token.Token.{Token}
use Rattle.script_grammar.specs.declared.token.Token.TheVariants.{Plain as W, Sign, Minus, Bang, Opens, Closes, IfWord, ThenWord, ElseWord}
use Rattle.script_grammar.specs.Grammar.{word_tree, binds, left}

-- what is begun and wants an operand
pub data Pending : Type 0 where
  InOpen : Pending
  InPrefix : (op : Unary) → Pending
  InRight : (x : Tree) (op : Binary) → Pending
  InTest : Pending
  InThen : (c : Tree) → Pending
  InElse : (c x : Tree) → Pending

-- what is begun, the innermost first
abbrev pub Stack : Type 0
Stack = List Pending

-- an operand is wanted, or one is there
pub data State : Type 0 where
  Wants : (s : Stack) → State
  Has : (s : Stack) (x : Tree) → State

-- the level that an operand needs on top of a stack
abbrev pub need : Stack → ℕ
need (InPrefix op ∷ s) = 7
need (InRight x op ∷ s) = binds op + 1
need s = 0

-- an atom ends the prefix operators before it
abbrev pub settle : Stack → Tree → State
settle (InPrefix op ∷ s) x = settle s (Apply op x)
settle s x = Has s x

-- the operators that bind at least so take their right side
abbrev pub reduce : ℕ → Stack → Tree → State
reduce l (InRight y op ∷ s) x = if nat_le l (binds op) then reduce l s (Join op y x) else Has (InRight y op ∷ s) x
reduce l s x = Has s x

-- all operators and ended choices take their last part
abbrev pub close : Stack → Tree → State
close (InRight y op ∷ s) x = close s (Join op y x)
close (InElse c y ∷ s) x = close s (If c y x)
close s x = Has s x

-- an operator takes the operand before it, where its level may stand
abbrev pub operate : Binary → State → Option State
operate op (Wants s) = None
operate op (Has s x) = if nat_le (need s) (binds op) then Some (Wants (InRight x op ∷ s)) else None

-- a closing parenthesis ends the parenthesis that is begun last, and is the end of an atom
abbrev pub on_close : State → Option State
on_close (Has (InOpen ∷ s) x) = Some (settle s x)
on_close st = None

-- `then` follows the condition of the `if` that is begun last
abbrev pub on_then : State → Option State
on_then (Has (InTest ∷ s) x) = Some (Wants (InThen x ∷ s))
on_then st = None

-- `else` follows the first part of the `if` that is begun last
abbrev pub on_else : State → Option State
on_else (Has (InThen c ∷ s) x) = Some (Wants (InElse c x ∷ s))
on_else st = None

-- an `if` stands only where an operand may have any level
abbrev pub begin_choice : Stack → Option State
begin_choice s = if nat_le (need s) 0 then Some (Wants (InTest ∷ s)) else None

-- what is there behind one more token, if a script begins so
abbrev pub step : State → Token → Option State
step (Wants s) (W word) = Some (settle s (word_tree word))
step (Wants s) Minus = Some (Wants (InPrefix Negate ∷ s))
step (Wants s) Bang = Some (Wants (InPrefix Not ∷ s))
step (Wants s) Opens = Some (Wants (InOpen ∷ s))
step (Wants s) IfWord = begin_choice s
step (Wants s) token = None
step (Has s x) (Sign Subtract) = None
step (Has s x) (Sign op) = operate op (reduce (left op) s x)
step (Has s x) Minus = operate Subtract (reduce 5 s x)
step (Has s x) Closes = on_close (close s x)
step (Has s x) ThenWord = on_then (close s x)
step (Has s x) ElseWord = on_else (close s x)
step (Has s x) token = None

-- what is there behind some tokens
abbrev pub run : Option State → List Token → Option State
run None tokens = None
run (Some st) [] = Some st
run (Some st) (t ∷ tokens) = run (step st t) tokens

-- the tree, where nothing is begun any more
abbrev pub ended : State → Option Tree
ended (Has [] x) = Some x
ended st = None

-- the tree at the end of a text
abbrev pub finish : Option State → Option Tree
finish (Some (Has s x)) = ended (close s x)
finish st = None

-- the tree of a text
abbrev pub read : List Token → Option Tree
read tokens = finish (run (Some (Wants [])) tokens)
