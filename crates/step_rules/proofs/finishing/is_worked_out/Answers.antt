use Rattle.std.proofs.Common.{◌≡◌, ℕ, true, ◌&&◌, List, Option, sym, ap, ap₂, ◌∙◌, subst}
use Rattle.std.proofs.lemmas.Bool.{and_from}
use Rattle.std.specs.List.{list_all}
use Rattle.signal_graph.specs.Values.{nodes_in}
use Rattle.node_versions.specs.Entries.{Versions}
use Rattle.flow_model.specs.Machine.Words.{is_found, found_candidates}
use Rattle.flow_model.specs.Machine.Steps.{all_gathered, has_body_value}
use Rattle.flow_model.specs.Parts.Books.{bare, prior_in, is_discovered_in, is_released_in}
use Rattle.step_rules.specs.Edges.{is_discovered_by, is_released_by}
use Rattle.step_rules.specs.Fits.{listed}
use Rattle.step_rules.specs.Rests.{AreBelow}
use Rattle.step_rules.proofs.Deciding.{found_below, prior_picks_below}
use Rattle.step_rules.proofs.Truths.{second_decides}
use Rattle.step_rules.proofs.finishing.is_worked_out.Goals as goal

pub are_discovered-requires : goal.are_discovered-requires
are_discovered-requires g c = subst (λ (picks : List (Option ℕ)). AreBelow (g.L.Lists.nodes c.args.lists.now) (nodes_in picks)) (sym c.found_picks-found.ensures.machine)
    (found_below c.args.graph.now c.args.book.now (g.L.Lists.listing_of c.args.lists.now) (g.L.Lists.nodes c.args.lists.now) c.args.node c.requires.whole)

pub are_released-requires : goal.are_released-requires
are_released-requires g c = subst (λ (count : ℕ). AreBelow count (nodes_in c.args.picks.now)) (sym c.are_discovered.ensures.nodes)
    (subst (λ (picks : List (Option ℕ)). AreBelow (g.L.Lists.nodes c.args.lists.now) (nodes_in picks)) (sym c.requires.picks)
    (prior_picks_below c.args.graph.now c.args.book.now (g.L.Lists.listing_of c.args.lists.now) (g.L.Lists.nodes c.args.lists.now) c.args.version c.args.node c.requires.whole c.requires.node))

pub returns-clause-worked_out : goal.returns-clause-worked_out
returns-clause-worked_out g c =
    let b = c.args.book.now.book in
    let t = c.args.version in
    let n = c.args.node in
    let lists = listed (g.L.Lists.listing_of c.args.lists.now) in
    let found : is_found (bare b) n ≡ true = sym c.is_found.ensures ∙ c.if-not-is_found.false in
    let gathered : all_gathered (bare b) n (found_candidates (bare b) n) ≡ true =
    ap (λ (picks : List (Option ℕ)). all_gathered (bare b) n (nodes_in picks)) (sym c.found_picks-found.ensures.machine) ∙ sym c.are_picks_gathered.ensures ∙ c.if-not-are_picks_gathered.false in
    let discovered : list_all (is_discovered_in b lists t n) (found_candidates (bare b) n) ≡ true =
    ap₂ (λ (picks other : List (Option ℕ)). list_all (is_discovered_by (g.L.Lists.listing_of c.args.lists.now) t n picks) (nodes_in other)) (sym c.requires.picks) (sym c.found_picks-found.ensures.machine) ∙ sym c.if-not-are_discovered.ensures.discovered in
    let released : list_all (is_released_in b lists n) (prior_in (lists n) t) ≡ true =
    ap₂ (λ (picks other : List (Option ℕ)). list_all (is_released_by (g.L.Lists.listing_of c.args.lists.now) n other) (nodes_in picks)) (sym c.requires.picks) (sym c.found_picks-found.ensures.machine)
    ∙ ap (λ (ls : ℕ → Versions). list_all (is_released_by ls n c.found_picks-found.result) (nodes_in c.args.picks.now)) (sym c.are_discovered.ensures.lists)
    ∙ sym c.if-not-are_released.ensures.released in
    second_decides (is_found (bare b) n && all_gathered (bare b) n (found_candidates (bare b) n) && list_all (is_discovered_in b lists t n) (found_candidates (bare b) n) && list_all (is_released_in b lists n) (prior_in (lists n) t)) (has_body_value c.args.graph.now (bare b) n) c.has_body_value.result
    (and_from (is_found (bare b) n && all_gathered (bare b) n (found_candidates (bare b) n) && list_all (is_discovered_in b lists t n) (found_candidates (bare b) n)) (list_all (is_released_in b lists n) (prior_in (lists n) t))
    (and_from (is_found (bare b) n && all_gathered (bare b) n (found_candidates (bare b) n)) (list_all (is_discovered_in b lists t n) (found_candidates (bare b) n))
    (and_from (is_found (bare b) n) (all_gathered (bare b) n (found_candidates (bare b) n)) found gathered) discovered) released)
    c.has_body_value.ensures
