-- The reader's stack, which grows at its end, as the laws see it.
use Rattle.std.proofs.Common.{◌≡◌, ◌≤◌, List, [], ◌∷◌, ◌++◌, length, ap, ◌∙◌, arith}
use Rattle.std.proofs.lemmas.List.{reverse-append, map_push, length-reverse, length-map}
use Rattle.std.specs.Prelude.{map, reverse}
use Rattle.script_grammar.specs.declared.pending.Pending as code
use Rattle.script_grammar.specs.Reading.{InOpen, InPrefix, InRight, InTest, InThen, InElse, Stack}
use Rattle.script_grammar.specs.Nesting.{count}
use Rattle.script_grammar.specs.Stacks.{pending_of, stack_of}

-- what was begun last is the first one
pub stack_of-push : (xs : List code.Pending) (f : code.Pending) → stack_of (xs ++ f ∷ []) ≡ pending_of f ∷ stack_of xs
stack_of-push xs f = ap reverse (map_push pending_of xs f) ∙ reverse-append (map pending_of xs) (pending_of f ∷ [])

count_small : (s : Stack) → count s ≤ length s
count_small [] = omega arith
count_small (InOpen ∷ s) = omega (arith, count_small s)
count_small (InPrefix op ∷ s) = omega (arith, count_small s)
count_small (InRight x op ∷ s) = omega (arith, count_small s)
count_small (InTest ∷ s) = omega (arith, count_small s)
count_small (InThen c ∷ s) = omega (arith, count_small s)
count_small (InElse c x ∷ s) = omega (arith, count_small s)

-- no more of what is begun nests than there is
pub count_within : (xs : List code.Pending) → count (stack_of xs) ≤ length xs
count_within xs = omega (arith, count_small (stack_of xs), length-reverse (map pending_of xs), length-map xs pending_of)

pub ruleset stack_laws = (stack_of-push, count_within)
