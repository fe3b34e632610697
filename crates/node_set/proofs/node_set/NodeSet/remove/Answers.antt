use Rattle.std.proofs.Common.{◌≡◌, ◌<◌, ◌-◌, true, List, ℕ, length, sym, ap, ◌∙◌, subst, arith}
use Rattle.script_tree.specs.Bits.{is_set}
use Rattle.script_tree.proofs.Lists.{whole_slice}
use Rattle.node_set.specs.Bits.{without_bit, Summarizes}
use Rattle.node_set.specs.Members.{Members, IsKept}
use Rattle.node_set.proofs.Nodes.{seen_in, take_seen, seen_without}
use Rattle.node_set.proofs.Kept.{kept_without, some_counted, length-without_bit}
use Rattle.node_set.proofs.node_set.NodeSet.remove.Goals as goal

pub returns-then-not-is_set-clause-nodes : goal.returns-then-not-is_set-clause-nodes
returns-then-not-is_set-clause-nodes c =
    let tells = c.is_set.ensures ∙ ap (λ (ws : List ℕ). is_set ws c.args.node) c.as_slice.ensures.value ∙ seen_in c.self.inside.words.items c.self.inside.size c.args.node c.args.self.now c.self.view_is c.requires in
    take_seen c.args.node c.args.self.now (sym tells ∙ c.if-not-is_set.true)

pub returns-then-not-is_set-clause-was_in : goal.returns-then-not-is_set-clause-was_in
returns-then-not-is_set-clause-was_in c =
    let tells = c.is_set.ensures ∙ ap (λ (ws : List ℕ). is_set ws c.args.node) c.as_slice.ensures.value ∙ seen_in c.self.inside.words.items c.self.inside.size c.args.node c.args.self.now c.self.view_is c.requires in
    sym c.if-not-is_set.true ∙ tells

pub returns-clause-was_in : goal.returns-clause-was_in
returns-clause-was_in c =
    let tells = c.is_set.ensures ∙ ap (λ (ws : List ℕ). is_set ws c.args.node) c.as_slice.ensures.value ∙ seen_in c.self.inside.words.items c.self.inside.size c.args.node c.args.self.now c.self.view_is c.requires in
    sym c.if-not-is_set.false ∙ tells

pub overflow_sub-count : goal.overflow_sub-count
overflow_sub-count c =
    let items : List ℕ = c.self.inside.words.items in
    let there : is_set items c.args.node ≡ true = sym (c.is_set.ensures ∙ ap (λ (ws : List ℕ). is_set ws c.args.node) c.as_slice.ensures.value) ∙ c.if-not-is_set.false in
    let h = c.requires in
    let below : c.args.node < c.self.inside.size = omega (arith, h, ap (λ (m : Members). m.size) c.self.view_is) in
    some_counted items c.self.inside.summary c.self.inside.size c.self.inside.count c.args.node c.self.invariant below there

pub invariant_of-self : goal.invariant_of-self
invariant_of-self c =
    let items : List ℕ = c.self.inside.words.items in
    let K : List ℕ → Type 0 = λ ws. IsKept ws c.take_out.new.summary c.self.inside.size (c.self.inside.count - 1) in
    let S : List ℕ → Type 0 = λ ws. Summarizes c.take_out.new.summary ws in
    let new : c.take_out.new.words ≡ without_bit items c.args.node = c.take_out.ensures.words ∙ ap (λ (ws : List ℕ). without_bit ws c.args.node) c.as_mut_slice.ensures.value in
    let there : is_set items c.args.node ≡ true = sym (c.is_set.ensures ∙ ap (λ (ws : List ℕ). is_set ws c.args.node) c.as_slice.ensures.value) ∙ c.if-not-is_set.false in
    let h = c.requires in
    let below : c.args.node < c.self.inside.size = omega (arith, h, ap (λ (m : Members). m.size) c.self.view_is) in
    let len : length c.take_out.new.words ≡ length items = ap length new ∙ length-without_bit items c.args.node in
    let kept = kept_without items c.self.inside.summary c.take_out.new.summary c.self.inside.size c.self.inside.count c.args.node c.self.invariant below there (omega arith) (subst S new c.take_out.ensures.summarizes) in
    subst K (sym (whole_slice c.self.inside.words.len c.take_out.new.words items len (omega arith) ∙ new)) kept

pub returns-clause-nodes : goal.returns-clause-nodes
returns-clause-nodes c =
    let items : List ℕ = c.self.inside.words.items in
    let new : c.take_out.new.words ≡ without_bit items c.args.node = c.take_out.ensures.words ∙ ap (λ (ws : List ℕ). without_bit ws c.args.node) c.as_mut_slice.ensures.value in
    let h = c.requires in
    let below : c.args.node < c.self.inside.size = omega (arith, h, ap (λ (m : Members). m.size) c.self.view_is) in
    let len : length c.take_out.new.words ≡ length items = ap length new ∙ length-without_bit items c.args.node in
    let room = c.self.invariant.room in
    seen_without items c.self.inside.size c.args.node c.args.self.now c.self.view_is (omega (arith, below, room)) _ (whole_slice c.self.inside.words.len c.take_out.new.words items len (omega arith) ∙ new)
