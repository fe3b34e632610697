-- A script's tree: a node for each operator, `if` and leaf. Parentheses leave none.
use Rattle.std.specs.Prelude.{ℕ, ℤ, Bool}
use Rattle.script_tree.specs.declared.expr.Unary.{Unary}
use Rattle.script_tree.specs.declared.expr.Binary.{Binary}
use Rattle.script_tree.specs.declared.expr.Expr.{Expr}
use Rattle.script_tree.specs.declared.expr.Expr.TheVariants as code

-- an input is named by its place in the list of the script's names, a pick by its place among the picks; both count from 0
pub data Tree : Type 0 where
  Number : (z : ℤ) → Tree
  Constant : (b : Bool) → Tree
  Input : (i : ℕ) → Tree
  Pick : (i : ℕ) → Tree
  Acc : Tree
  Apply : (op : Unary) (x : Tree) → Tree
  Join : (op : Binary) (x y : Tree) → Tree
  If : (c x y : Tree) → Tree

-- the tree that a value of the program is, without where it lies in memory
abbrev pub tree_of : Expr → Tree
tree_of (code.Number z) = Number z
tree_of (code.Truth b) = Constant b
tree_of (code.Input i) = Input i
tree_of (code.Pick i) = Pick i
tree_of code.Acc = Acc
tree_of (code.Unary' op p x) = Apply op (tree_of x)
tree_of (code.Binary' op p x q y) = Join op (tree_of x) (tree_of y)
tree_of (code.If' p c q x r y) = If (tree_of c) (tree_of x) (tree_of y)
