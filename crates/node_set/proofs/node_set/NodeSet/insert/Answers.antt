use Rattle.std.proofs.Common.{◌≡◌, ◌<◌, ◌+◌, false, not, List, ℕ, length, sym, ap, ◌∙◌, subst, arith}
use Rattle.script_tree.specs.Bits.{is_set}
use Rattle.script_tree.proofs.Lists.{whole_slice}
use Rattle.node_set.specs.Bits.{with_bit, Summarizes}
use Rattle.node_set.specs.Members.{Members, IsKept}
use Rattle.node_set.proofs.Nodes.{seen_in, put_seen, seen_with, count_below}
use Rattle.node_set.proofs.Kept.{kept_with, length-with_bit}
use Rattle.node_set.proofs.node_set.NodeSet.insert.Goals as goal

pub returns-then-is_set-clause-nodes : goal.returns-then-is_set-clause-nodes
returns-then-is_set-clause-nodes c =
    let tells = c.is_set.ensures ∙ ap (λ (ws : List ℕ). is_set ws c.args.node) c.as_slice.ensures.value ∙ seen_in c.self.inside.words.items c.self.inside.size c.args.node c.args.self.now c.self.view_is c.requires in
    put_seen c.self.inside.words.items c.self.inside.size c.args.node c.args.self.now c.self.view_is (sym tells ∙ c.if-is_set.true)

pub returns-then-is_set-clause-was_new : goal.returns-then-is_set-clause-was_new
returns-then-is_set-clause-was_new c =
    let tells = c.is_set.ensures ∙ ap (λ (ws : List ℕ). is_set ws c.args.node) c.as_slice.ensures.value ∙ seen_in c.self.inside.words.items c.self.inside.size c.args.node c.args.self.now c.self.view_is c.requires in
    ap not (sym c.if-is_set.true ∙ tells)

pub returns-clause-was_new : goal.returns-clause-was_new
returns-clause-was_new c =
    let tells = c.is_set.ensures ∙ ap (λ (ws : List ℕ). is_set ws c.args.node) c.as_slice.ensures.value ∙ seen_in c.self.inside.words.items c.self.inside.size c.args.node c.args.self.now c.self.view_is c.requires in
    ap not (sym c.if-is_set.false ∙ tells)

pub overflow_add-count : goal.overflow_add-count
overflow_add-count c = let n = count_below c.self.inside.words.items c.self.inside.summary c.self.inside.size c.self.inside.count c.self.invariant in omega (arith, n)

pub invariant_of-self : goal.invariant_of-self
invariant_of-self c =
    let items : List ℕ = c.self.inside.words.items in
    let K : List ℕ → Type 0 = λ ws. IsKept ws c.put_in.new.summary c.self.inside.size (c.self.inside.count + 1) in
    let S : List ℕ → Type 0 = λ ws. Summarizes c.put_in.new.summary ws in
    let new : c.put_in.new.words ≡ with_bit items c.args.node = c.put_in.ensures.words ∙ ap (λ (ws : List ℕ). with_bit ws c.args.node) c.as_mut_slice.ensures.value in
    let missing : is_set items c.args.node ≡ false = sym (c.is_set.ensures ∙ ap (λ (ws : List ℕ). is_set ws c.args.node) c.as_slice.ensures.value) ∙ c.if-is_set.false in
    let h = c.requires in
    let below : c.args.node < c.self.inside.size = omega (arith, h, ap (λ (m : Members). m.size) c.self.view_is) in
    let len : length c.put_in.new.words ≡ length items = ap length new ∙ length-with_bit items c.args.node in
    let kept = kept_with items c.self.inside.summary c.put_in.new.summary c.self.inside.size c.self.inside.count c.args.node c.self.invariant below missing (omega arith) (subst S new c.put_in.ensures.summarizes) in
    subst K (sym (whole_slice c.self.inside.words.len c.put_in.new.words items len (omega arith) ∙ new)) kept

pub returns-clause-nodes : goal.returns-clause-nodes
returns-clause-nodes c =
    let items : List ℕ = c.self.inside.words.items in
    let new : c.put_in.new.words ≡ with_bit items c.args.node = c.put_in.ensures.words ∙ ap (λ (ws : List ℕ). with_bit ws c.args.node) c.as_mut_slice.ensures.value in
    let h = c.requires in
    let below : c.args.node < c.self.inside.size = omega (arith, h, ap (λ (m : Members). m.size) c.self.view_is) in
    let len : length c.put_in.new.words ≡ length items = ap length new ∙ length-with_bit items c.args.node in
    let room = c.self.invariant.room in
    seen_with items c.self.inside.size c.args.node c.args.self.now c.self.view_is below (omega (arith, below, room)) _ (whole_slice c.self.inside.words.len c.put_in.new.words items len (omega arith) ∙ new)
