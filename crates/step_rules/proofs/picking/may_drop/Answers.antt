use Rattle.std.proofs.Common.{◌≡◌, ℕ, true, false, not, ◌&&◌, List, Option, sym, ap, ◌∙◌}
use Rattle.std.proofs.lemmas.Bool.{and_left, and_right, and_from, not_from_false}
use Rattle.signal_graph.specs.Graph.{is_in}
use Rattle.signal_graph.specs.Values.{nodes_in}
use Rattle.node_versions.specs.Entries.{Versions, has_node}
use Rattle.flow_model.specs.Machine.Words.{is_found, is_candidate, found_candidates}
use Rattle.flow_model.specs.Machine.Steps.{all_gathered}
use Rattle.flow_model.specs.Parts.Books.{bare, due_in, prior_in, has_room_for_in}
use Rattle.step_rules.specs.Fits.{listed}
use Rattle.step_rules.proofs.Truths.{second_decides}
use Rattle.step_rules.proofs.Wholes.{picks_are, picks_there}
use Rattle.step_rules.proofs.picking.may_drop.Goals as goal

pub returns-then-not-has_pick-clause-allowed : goal.returns-then-not-has_pick-clause-allowed
returns-then-not-has_pick-clause-allowed g c =
    let b = c.args.book.now.book in
    let t = c.args.version in
    let n = c.args.node in
    let m = c.args.candidate in
    let lists = listed (g.L.Lists.listing_of c.args.lists.now) in
    let due = due_in c.args.graph.now b (lists n) t n in
    let prior : c.has_pick.result ≡ is_in m (prior_in (lists n) t) = c.has_pick.ensures ∙ ap (λ (picks : List (Option ℕ)). is_in m (nodes_in picks)) (picks_are _ _ c.in-Some.picks (sym c.in-Some.ensures.picks)) in
    let found = is_found (bare b) n in
    let gathered = all_gathered (bare b) n (found_candidates (bare b) n) in
    let before = is_in m (prior_in (lists n) t) in
    let gone = not (is_candidate (bare b) n m) in
    let edge = has_node (lists m).outs n in
    let place = has_room_for_in b (lists m) t in
    sym (and_left (due && found && gathered && before && gone && edge) place (and_left (due && found && gathered && before && gone) edge
    (and_left (due && found && gathered && before) gone (and_right (due && found && gathered) before (sym prior ∙ c.if-not-has_pick.true)))))

pub returns-then-not-has_node-clause-allowed : goal.returns-then-not-has_node-clause-allowed
returns-then-not-has_node-clause-allowed g c =
    let b = c.args.book.now.book in
    let t = c.args.version in
    let n = c.args.node in
    let m = c.args.candidate in
    let lists = listed (g.L.Lists.listing_of c.args.lists.now) in
    let due = due_in c.args.graph.now b (lists n) t n in
    let found = is_found (bare b) n in
    let gathered = all_gathered (bare b) n (found_candidates (bare b) n) in
    let before = is_in m (prior_in (lists n) t) in
    let gone = not (is_candidate (bare b) n m) in
    let edge = has_node (lists m).outs n in
    let place = has_room_for_in b (lists m) t in
    let none : has_node (lists m).outs n ≡ false = ap (λ (ls : ℕ → Versions). has_node (ls m).outs n) (sym c.due_picks.ensures.lists) ∙ sym c.has_node.ensures.result ∙ c.if-not-has_node.true in
    sym (and_left (due && found && gathered && before && gone && edge) place (and_right (due && found && gathered && before && gone) edge none))

pub returns-clause-allowed : goal.returns-clause-allowed
returns-clause-allowed g c =
    let b = c.args.book.now.book in
    let t = c.args.version in
    let n = c.args.node in
    let m = c.args.candidate in
    let lists = listed (g.L.Lists.listing_of c.args.lists.now) in
    let due = due_in c.args.graph.now b (lists n) t n in
    let prior : c.has_pick.result ≡ is_in m (prior_in (lists n) t) = c.has_pick.ensures ∙ ap (λ (picks : List (Option ℕ)). is_in m (nodes_in picks)) (picks_are _ _ c.in-Some.picks (sym c.in-Some.ensures.picks)) in
    let found = is_found (bare b) n in
    let gathered = all_gathered (bare b) n (found_candidates (bare b) n) in
    let before = is_in m (prior_in (lists n) t) in
    let gone = not (is_candidate (bare b) n m) in
    let edge = has_node (lists m).outs n in
    let place = has_room_for_in b (lists m) t in
    let some : has_node (lists m).outs n ≡ true = ap (λ (ls : ℕ → Versions). has_node (ls m).outs n) (sym c.due_picks.ensures.lists) ∙ sym c.has_node.ensures.result ∙ c.if-not-has_node.false in
    let all : all_gathered (bare b) n (found_candidates (bare b) n) ≡ true = ap (λ (picks : List (Option ℕ)). all_gathered (bare b) n (nodes_in picks)) (sym c.found_picks.ensures.machine) ∙ sym c.are_picks_gathered.ensures ∙ c.if-not-are_picks_gathered.false in
    second_decides (due && found && gathered && before && gone && edge) place c.has_place.result
    (and_from (due && found && gathered && before && gone) edge
    (and_from (due && found && gathered && before) gone
    (and_from (due && found && gathered) before
    (and_from (due && found) gathered
    (and_from due found (picks_there _ _ c.in-Some.picks (sym c.in-Some.ensures.picks)) (sym c.is_found.ensures ∙ c.if-not-is_found.false)) all)
    (sym prior ∙ c.if-not-has_pick.false))
    (not_from_false (is_candidate (bare b) n m) (sym c.is_candidate.ensures ∙ c.if-is_candidate.false))) some)
    (c.has_place.ensures.place ∙ ap (λ (ls : ℕ → Versions). has_room_for_in b (listed ls m) t) (c.has_node.ensures.lists ∙ c.due_picks.ensures.lists))
