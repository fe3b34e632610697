-- The canonical writing of a tree: parentheses stand exactly where a part's level is too low for its place.
use Rattle.std.specs.Prelude.{ℕ, ◌+◌, true, false, nat_le, if◌then◌else◌}
use Rattle.script_grammar.specs.declared.token.Word.TheVariants.{Digits, Yes, No, Called, Pick as Picked, Acc as Old}
use Rattle.script_tree.specs.Tree.{Tree, Number, Constant, Input, Pick, Acc, Apply, Join, If}
use Rattle.script_grammar.specs.Grammar.{Written, Plain, Inside, Before, Between, Choice, level, left, binds}

-- a writing at a place that needs a level
abbrev pub put : ℕ → Written → Written
put l w = if nat_le l (level w) then w else Inside w

-- the canonical writing of a tree
abbrev pub canonical : Tree → Written
canonical (Number z) = Plain (Digits z)
canonical (Constant true) = Plain Yes
canonical (Constant false) = Plain No
canonical (Input i) = Plain (Called i)
canonical (Pick i) = Plain (Picked i)
canonical Acc = Plain Old
canonical (Apply op x) = Before op (put 7 (canonical x))
canonical (Join op x y) = Between op (put (left op) (canonical x)) (put (binds op + 1) (canonical y))
canonical (If c x y) = Choice (canonical c) (canonical x) (canonical y)
