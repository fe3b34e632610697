use Rattle.std.proofs.Common.{ℕ, sym, ap, ◌∙◌, subst}
use Rattle.std.specs.Prelude.{◌∷◌, []}
use Rattle.std.specs.List.{list_all}
use Rattle.signal_graph.specs.Values.{nodes_in}
use Rattle.node_versions.specs.Entries.{Versions}
use Rattle.step_rules.specs.Edges.{is_discovered_by}
use Rattle.step_rules.specs.Rests.{AreBelow}
use Rattle.step_rules.proofs.Going.{picks_below, all_picks_failed}
use Rattle.step_rules.proofs.finishing.are_discovered.Goals as goal

pub is_discovered-requires : goal.is_discovered-requires
is_discovered-requires g c = subst (λ (count : ℕ). AreBelow count (nodes_in (c.get.result ∷ []))) (sym c.loop-index.invariant.nodes)
    (picks_below (g.L.Lists.nodes c.args.lists.now) c.args.found.now c.loop-index.index c.get.result c.requires c.get.ensures)

pub returns-then-not-is_discovered-clause-discovered : goal.returns-then-not-is_discovered-clause-discovered
returns-then-not-is_discovered-clause-discovered g c =
    let test = is_discovered_by (g.L.Lists.listing_of c.args.lists.now) c.args.version c.args.node c.args.picks.now in
    all_picks_failed test c.args.found.now c.loop-index.index c.get.result _ c.get.ensures c.loop-index.invariant.rest
    (sym (ap (λ (lists : ℕ → Versions). list_all (is_discovered_by lists c.args.version c.args.node c.args.picks.now) (nodes_in (c.get.result ∷ []))) c.loop-index.invariant.lists) ∙ sym c.if-not-is_discovered.ensures.discovered)
