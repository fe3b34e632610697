use Rattle.std.proofs.Common.{◌≡◌, length}
use Rattle.script_tree.specs.Tree.{tree_of}
use Rattle.script_grammar.specs.Reading.{settle}
use Rattle.script_grammar.specs.Stacks.{stack_of}
use Rattle.script_grammar.proofs.stack.Stack.settle.Given as goal

abbrev pub invariant-loop-pending : goal.invariant-loop-pending
invariant-loop-pending l = settle (stack_of l.self.begun.items) (tree_of l.x) ≡ settle (stack_of l.initial.self.begun.items) (tree_of l.initial.x)

abbrev pub decreases-loop-pending : goal.decreases-loop-pending
decreases-loop-pending l = length l.self.begun.items
