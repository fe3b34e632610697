use Rattle.std.proofs.Common.{◌≡◌, ℕ, false, not, ◌&&◌, List, Option, sym, ap, ◌∙◌}
use Rattle.std.proofs.lemmas.Bool.{and_left, and_right, and_from, not_from_false}
use Rattle.signal_graph.specs.Graph.{is_in}
use Rattle.signal_graph.specs.Values.{nodes_in}
use Rattle.node_versions.specs.Entries.{Versions, has_out}
use Rattle.flow_model.specs.Machine.Words.{is_candidate}
use Rattle.flow_model.specs.Parts.Books.{bare, due_in, prior_in, has_room_for_in}
use Rattle.step_rules.specs.Fits.{listed}
use Rattle.step_rules.proofs.Truths.{second_decides}
use Rattle.step_rules.proofs.Wholes.{picks_are, picks_there}
use Rattle.step_rules.proofs.picking.may_discover.Goals as goal

pub returns-then-not-is_candidate-clause-allowed : goal.returns-then-not-is_candidate-clause-allowed
returns-then-not-is_candidate-clause-allowed g c =
    let b = c.args.book.now.book in
    let t = c.args.version in
    let n = c.args.node in
    let m = c.args.candidate in
    let lists = listed (g.L.Lists.listing_of c.args.lists.now) in
    let due = due_in c.args.graph.now b (lists n) t n in
    let cand = is_candidate (bare b) n m in
    let new = not (is_in m (prior_in (lists n) t)) in
    let no_edge = not (has_out (lists m).outs n t) in
    let place = has_room_for_in b (lists m) t in
    sym (and_left (due && cand && new && no_edge) place (and_left (due && cand && new) no_edge (and_left (due && cand) new (and_right due cand (sym c.is_candidate.ensures ∙ c.if-not-is_candidate.true)))))

pub returns-clause-allowed : goal.returns-clause-allowed
returns-clause-allowed g c =
    let b = c.args.book.now.book in
    let t = c.args.version in
    let n = c.args.node in
    let m = c.args.candidate in
    let lists = listed (g.L.Lists.listing_of c.args.lists.now) in
    let due = due_in c.args.graph.now b (lists n) t n in
    let prior : c.has_pick.result ≡ is_in m (prior_in (lists n) t) = c.has_pick.ensures ∙ ap (λ (picks : List (Option ℕ)). is_in m (nodes_in picks)) (picks_are _ _ c.in-Some.picks (sym c.in-Some.ensures.picks)) in
    let cand = is_candidate (bare b) n m in
    let new = not (is_in m (prior_in (lists n) t)) in
    let no_edge = not (has_out (lists m).outs n t) in
    let place = has_room_for_in b (lists m) t in
    let edge : has_out (lists m).outs n t ≡ false = ap (λ (ls : ℕ → Versions). has_out (ls m).outs n t) (sym c.due_picks.ensures.lists) ∙ sym c.has_out.ensures.result ∙ c.if-has_out.false in
    second_decides (due && cand && new && no_edge) place c.has_place.result
    (and_from (due && cand && new) no_edge (and_from (due && cand) new (and_from due cand (picks_there _ _ c.in-Some.picks (sym c.in-Some.ensures.picks)) (sym c.is_candidate.ensures ∙ c.if-not-is_candidate.false)) (not_from_false (is_in m (prior_in (lists n) t)) (sym prior ∙ c.if-has_pick.false))) (not_from_false (has_out (lists m).outs n t) edge))
    (c.has_place.ensures.place ∙ ap (λ (ls : ℕ → Versions). has_room_for_in b (listed ls m) t) (c.has_out.ensures.lists ∙ c.due_picks.ensures.lists))
