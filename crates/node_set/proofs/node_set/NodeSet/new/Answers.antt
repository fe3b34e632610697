use Rattle.std.proofs.Common.{List, ℕ, sym, ap, subst, arith}
use Rattle.node_set.specs.Members.{Members}
use Rattle.node_set.proofs.Kept.{kept_empty, zeros_of, zeros_clear, AreZeros}
use Rattle.node_set.proofs.Nodes.{nodes_of-clear}
use Rattle.node_set.proofs.node_set.NodeSet.new.Goals as goal

zeros : (c : goal.In_ok-words) → AreZeros c.in_ok-words.words.items
zeros c = subst AreZeros (sym (c.in_ok-words.ensures.items_if_clones_equal (λ y e. e))) (zeros_of _)

pub invariant_of-result : goal.invariant_of-result
invariant_of-result c = let few = c.requires in let len = c.in_ok-words.ensures.len in let up = c.div_ceil.ensures in kept_empty c.in_ok-words.words.items c.args.size few (omega (arith, len, up)) (omega (arith, len, up)) (zeros c)

pub returns : goal.returns
returns c = let M : List ℕ → Members = λ nodes. record { size = c.args.size; nodes = nodes } in ap M (nodes_of-clear c.in_ok-words.words.items c.args.size (zeros_clear c.in_ok-words.words.items (zeros c)))
