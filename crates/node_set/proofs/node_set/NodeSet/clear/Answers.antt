use Rattle.std.proofs.Common.{List, ℕ, sym, ap, ◌∙◌, subst, arith}
use Rattle.node_set.specs.Members.{Members, no_members}
use Rattle.node_set.proofs.Kept.{kept_empty, zeros_of, zeros_clear, AreZeros}
use Rattle.node_set.proofs.Nodes.{nodes_of-clear, no_nodes}
use Rattle.node_set.proofs.node_set.NodeSet.clear.Goals as goal

zeros : (c : goal.After-self-2-1) → AreZeros c.fill.new.self.items
zeros c = subst AreZeros (sym (c.fill.ensures.items (λ y e. e))) (zeros_of _)

pub returns-then-self-eq0 : goal.returns-then-self-eq0
returns-then-self-eq0 c = no_nodes c.self.inside.words.items c.self.inside.summary c.self.inside.size c.self.inside.count c.args.self.now c.self.view_is c.self.invariant c.if-self-eq0.true

pub invariant_of-self : goal.invariant_of-self
invariant_of-self c = let k = c.self.invariant in let len = c.fill.ensures.len in let few = k.some_words in let room = k.room in kept_empty c.fill.new.self.items c.self.inside.size k.few (omega (arith, len)) (omega (arith, len)) (zeros c)

pub returns : goal.returns
returns c =
    let M : List ℕ → Members = λ nodes. record { size = c.self.inside.size; nodes = nodes } in
    ap M (nodes_of-clear c.fill.new.self.items c.self.inside.size (zeros_clear c.fill.new.self.items (zeros c)))
    ∙ ap (λ (m : Members). no_members m.size) c.self.view_is
