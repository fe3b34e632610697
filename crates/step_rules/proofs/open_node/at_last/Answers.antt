use Rattle.std.proofs.Common.{◌<◌, ℕ, sym, subst}
use Rattle.step_rules.proofs.Inside.{picked-fit, chosen-below}
use Rattle.step_rules.proofs.open_node.at_last.Goals as goal

pub first_held-requires : goal.first_held-requires
first_held-requires g c = picked-fit c.args.graph.now c.requires.whole.state c.args.book.now (g.L.Lists.listing_of c.args.lists.now) (g.L.Lists.nodes c.args.lists.now) c.requires.whole.whole c.args.version c.args.node _ c.requires.open c.requires.picked

pub entered-requires : goal.entered-requires
entered-requires g c = subst (λ (k : ℕ). c.in-Some.candidate < k) (sym c.first_held.ensures.nodes)
    (chosen-below (g.L.Lists.nodes c.args.lists.now) _ _ c.in-Some.candidate c.first_held.result (picked-fit c.args.graph.now c.requires.whole.state c.args.book.now (g.L.Lists.listing_of c.args.lists.now) (g.L.Lists.nodes c.args.lists.now) c.requires.whole.whole c.args.version c.args.node _ c.requires.open c.requires.picked) c.first_held.ensures.first c.in-Some.is)
