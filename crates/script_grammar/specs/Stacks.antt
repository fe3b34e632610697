-- The reader's stack as the laws see it: what was begun last comes first.
use Rattle.std.specs.Prelude.{List, map, reverse, Option, Some, None}
use Rattle.script_tree.specs.declared.expr.Expr.{Expr}
use Rattle.script_tree.specs.Tree.{tree_of}
use Rattle.script_grammar.specs.declared.pending.Pending as code
use Rattle.script_grammar.specs.declared.pending.Pending.TheVariants.{Open, Prefix, Right, Test, Then, Else}
use Rattle.script_grammar.specs.declared.next.Next.{Next}
use Rattle.script_grammar.specs.declared.next.Next.TheVariants.{Fails, WantsMore, HasOne}
use Rattle.script_grammar.specs.Reading.{Pending, InOpen, InPrefix, InRight, InTest, InThen, InElse, Stack, State, Wants, Has}

-- what is begun, with the trees of its operands
abbrev pub pending_of : code.Pending → Pending
pending_of Open = InOpen
pending_of (Prefix op) = InPrefix op
pending_of (Right x op) = InRight (tree_of x) op
pending_of Test = InTest
pending_of (Then c) = InThen (tree_of c)
pending_of (Else c x) = InElse (tree_of c) (tree_of x)

-- the program keeps the innermost one last
abbrev pub stack_of : List code.Pending → Stack
stack_of begun = reverse (map pending_of begun)

-- what is begun, and the operand that is there
abbrev pub state_of : List code.Pending → Option Expr → State
state_of begun None = Wants (stack_of begun)
state_of begun (Some x) = Has (stack_of begun) (tree_of x)

-- what is there behind a token
abbrev pub next_of : Next → List code.Pending → Option State
next_of Fails begun = None
next_of WantsMore begun = Some (Wants (stack_of begun))
next_of (HasOne x) begun = Some (Has (stack_of begun) (tree_of x))
