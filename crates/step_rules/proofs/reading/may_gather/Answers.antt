use Rattle.std.proofs.Common.{ℕ, not, ◌&&◌, sym, ap, ◌∙◌}
use Rattle.std.proofs.lemmas.Bool.{and_from, not_from_false}
use Rattle.std.specs.Prelude.{◌||◌}
use Rattle.signal_graph.specs.Graph.{is_in, inputs_of, node_at}
use Rattle.node_versions.specs.Entries.{Versions, served}
use Rattle.flow_model.specs.Machine.Words.{is_gathered, is_candidate}
use Rattle.flow_model.specs.Parts.Books.{bare, due_in}
use Rattle.step_rules.specs.Fits.{listed}
use Rattle.step_rules.proofs.Truths.{second_decides}
use Rattle.step_rules.proofs.Wholes.{picks_there}
use Rattle.step_rules.proofs.reading.may_gather.Goals as goal

pub returns-clause-allowed : goal.returns-clause-allowed
returns-clause-allowed g c =
    let b = c.args.book.now.book in
    let t = c.args.version in
    let n = c.args.node in
    let m = c.args.input in
    let lists = listed (g.L.Lists.listing_of c.args.lists.now) in
    let due = due_in c.args.graph.now b (lists n) t n in
    let read = is_in m (inputs_of (node_at c.args.graph.now n)) || is_candidate (bare b) n m in
    let new = not (is_gathered (bare b) n m) in
    second_decides (due && read && new) (served (lists m).entries t) c.served.result
    (and_from (due && read) new (and_from due read (picks_there _ _ c.in-Some._picks (sym c.in-Some.ensures.picks)) (sym c.is_read.ensures ∙ c.if-not-is_read.false)) (not_from_false (is_gathered (bare b) n m) (sym c.is_gathered.ensures ∙ c.if-is_gathered.false)))
    (c.served.ensures.result ∙ ap (λ (ls : ℕ → Versions). served (ls m).entries t) c.due_picks.ensures.lists)
