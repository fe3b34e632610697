use Rattle.std.proofs.Common.{◌≡◌, ◌<◌, ◌++◌, length, rules, slice_set, ap, sym, ◌∙◌, ℕ, arith}
use Rattle.script_tree.specs.declared.picks.Place.TheVariants.{NoNode, Node}
use Rattle.script_tree.specs.PickPlaces.{items_of, item_of}
use Rattle.script_tree.proofs.PickItems.{put_free, put_items, none_is_taken, node_is_taken}
use Rattle.script_tree.proofs.picks.Picks.push.Goals as goal
use Rattle.script_tree.proofs.picks.Picks.push.Goals.{in-None, in-Some}

pub invariant_of-self : goal.invariant_of-self
invariant_of-self c =
    let at : c.len-index.result ≡ length (items_of c.self.inside.places c.self.inside.numbers) = c.len-index.ensures.value ∙ ap (λ xs. length xs) (sym c.self.view_is) in
    let all : length c.self.inside.places ≡ length c.self.inside.numbers = search rules in
    let h : c.len-index.result < length c.self.inside.places = search rules in
    elim c.match-item.branch [
      | in-None w ↦ put_free _ _ _ NoNode 0 _ w.place-is at c.self.invariant h all none_is_taken
      | in-Some w ↦ put_free _ _ _ Node w.in-Some.node _ w.place-is at c.self.invariant h all node_is_taken
    ]

pub returns : goal.returns
unfolding item_of
returns c =
    let at : c.len-index.result ≡ length (items_of c.self.inside.places c.self.inside.numbers) = c.len-index.ensures.value ∙ ap (λ xs. length xs) (sym c.self.view_is) in
    let all : length c.self.inside.places ≡ length c.self.inside.numbers = search rules in
    let h : c.len-index.result < length c.self.inside.places = search rules in
    elim c.match-item.branch [
      | in-None w ↦ put_items _ _ _ NoNode 0 _ _ _ w.place-is c.self.view_is w.in-None.is at c.self.invariant h all none_is_taken
      | in-Some w ↦ put_items _ _ _ Node w.in-Some.node _ _ _ w.place-is c.self.view_is w.in-Some.is at c.self.invariant h all node_is_taken
    ]
