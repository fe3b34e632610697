use Rattle.std.proofs.Common.{ℕ, sym, ap, ◌∙◌, subst}
use Rattle.std.specs.Prelude.{◌∷◌, []}
use Rattle.std.specs.List.{list_all}
use Rattle.signal_graph.specs.Values.{nodes_in}
use Rattle.node_versions.specs.Entries.{Versions}
use Rattle.step_rules.specs.Edges.{is_released_by}
use Rattle.step_rules.specs.Rests.{AreBelow}
use Rattle.step_rules.proofs.Going.{picks_below, all_picks_failed}
use Rattle.step_rules.proofs.finishing.are_released.Goals as goal

pub is_released-requires : goal.is_released-requires
is_released-requires g c = subst (λ (count : ℕ). AreBelow count (nodes_in (c.get.result ∷ []))) (sym c.loop-index.invariant.nodes)
    (picks_below (g.L.Lists.nodes c.args.lists.now) c.args.picks.now c.loop-index.index c.get.result c.requires c.get.ensures)

pub returns-then-not-is_released-clause-released : goal.returns-then-not-is_released-clause-released
returns-then-not-is_released-clause-released g c =
    let test = is_released_by (g.L.Lists.listing_of c.args.lists.now) c.args.node c.args.found.now in
    all_picks_failed test c.args.picks.now c.loop-index.index c.get.result _ c.get.ensures c.loop-index.invariant.rest
    (sym (ap (λ (lists : ℕ → Versions). list_all (is_released_by lists c.args.node c.args.found.now) (nodes_in (c.get.result ∷ []))) c.loop-index.invariant.lists) ∙ sym c.if-not-is_released.ensures.released)
