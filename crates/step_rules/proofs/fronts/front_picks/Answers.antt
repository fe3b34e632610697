use Rattle.std.proofs.Common.{◌≡◌, ℕ, List, Option, true, sym, ap, ◌∙◌, subst}
use Rattle.std.specs.Option.{IsSome}
use Rattle.node_versions.specs.Entries.{Versions, has, before, last_done, picks_before}
use Rattle.flow_state.specs.Booked.{node_count}
use Rattle.step_rules.specs.Rests.{AreBelow, rests_on}
use Rattle.step_rules.proofs.Wholes.{first_has, first_done, rests_below}
use Rattle.step_rules.proofs.fronts.front_picks.Goals as goal

pub picks_before-picks-requires-clause-entry : goal.picks_before-picks-requires-clause-entry
picks_before-picks-requires-clause-entry g c = subst (λ (lists : ℕ → Versions). has (lists c.args.node).entries c.args.version ≡ true) (sym c.is_first.ensures.lists)
    (first_has c.args.graph.now c.args.book.now (g.L.Lists.listing_of c.args.lists.now) _ c.args.version c.args.node c.requires.whole c.requires.node (sym c.if-not-is_first.ensures.first))

pub picks_before-picks-requires-clause-done : goal.picks_before-picks-requires-clause-done
picks_before-picks-requires-clause-done g c = subst (λ (lists : ℕ → Versions). IsSome (last_done (before (lists c.args.node).entries c.args.version))) (sym c.is_first.ensures.lists)
    (first_done c.args.graph.now c.args.book.now (g.L.Lists.listing_of c.args.lists.now) _ c.args.version c.args.node c.requires.whole c.requires.node (sym c.if-not-is_first.ensures.first))

pub rests_on_open-requires-clause-inside : goal.rests_on_open-requires-clause-inside
rests_on_open-requires-clause-inside g c = subst (λ (picks : List (Option ℕ)). AreBelow (node_count c.args.book.now) (rests_on c.args.graph.now c.args.node picks))
    (sym (c.picks_before-picks.ensures.result ∙ ap (λ (lists : ℕ → Versions). picks_before (lists c.args.node).entries c.args.version) c.is_first.ensures.lists))
    (rests_below c.args.graph.now c.args.book.now (g.L.Lists.listing_of c.args.lists.now) _ c.args.version c.args.node c.requires.whole c.requires.node)
