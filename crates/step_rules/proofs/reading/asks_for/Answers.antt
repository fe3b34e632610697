use Rattle.std.proofs.Common.{ℕ, not, ◌&&◌, List, Option, sym, ap, ◌∙◌}
use Rattle.signal_graph.specs.Graph.{is_in, inputs_of, node_at}
use Rattle.signal_graph.specs.Values.{nodes_in}
use Rattle.flow_model.specs.Machine.Words.{is_gathered, is_candidate}
use Rattle.flow_model.specs.Parts.Books.{bare, due_in, prior_in}
use Rattle.step_rules.specs.Fits.{listed}
use Rattle.step_rules.proofs.Truths.{other_decides}
use Rattle.step_rules.proofs.Wholes.{picks_are, picks_there}
use Rattle.step_rules.proofs.reading.asks_for.Goals as goal

pub returns-clause-asks : goal.returns-clause-asks
returns-clause-asks g c =
    let b = c.args.book.now.book in
    let t = c.args.version in
    let n = c.args.asking in
    let m = c.args.node in
    let lists = listed (g.L.Lists.listing_of c.args.lists.now) in
    other_decides (due_in c.args.graph.now b (lists n) t n) (is_in m (inputs_of (node_at c.args.graph.now n)) && not (is_gathered (bare b) n m)) (is_candidate (bare b) n m && is_in m (prior_in (lists n) t)) c.is_picked_again.result
    (picks_there _ _ c.in-Some.picks (sym c.in-Some.ensures.picks))
    (sym c.is_missing_input.ensures ∙ c.if-is_missing_input.false)
    (c.is_picked_again.ensures ∙ ap (λ (picks : List (Option ℕ)). is_candidate (bare b) n m && is_in m (nodes_in picks)) (picks_are _ _ c.in-Some.picks (sym c.in-Some.ensures.picks)))
