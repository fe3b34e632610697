use Rattle.std.proofs.Common.{ℕ, List, ◌++◌, ap, ◌∙◌}
use Rattle.std.specs.List.{list_any}
use Rattle.signal_graph.specs.Graph.{node_at, inputs_of}
use Rattle.flow_model.specs.Machine.State.{changes}
use Rattle.flow_model.specs.Parts.Books.{bare}
use Rattle.step_rules.proofs.Inside.{inputs-fit, chosen-below}
use Rattle.step_rules.proofs.SeatReads.{seat-changed}
use Rattle.step_rules.proofs.Turns.{told, gathered-told, source-miss, touch-miss, gather-hit, gather-miss, evaluate-miss}
use Rattle.step_rules.proofs.open_node.at_front.Goals as goal

pub reading-requires : goal.reading-requires
reading-requires g c =
    chosen-below (g.L.Lists.nodes c.args.lists.now) _ _ c.in-Some.input c.first_ungathered.result (inputs-fit c.args.graph.now c.requires.whole.state c.args.book.now (g.L.Lists.listing_of c.args.lists.now) (g.L.Lists.nodes c.args.lists.now) c.requires.whole.whole c.args.version c.args.node _ c.requires.open c.inputs.ensures) c.first_ungathered.ensures c.in-Some.is

pub returns-in-Some-clause-turn : goal.returns-in-Some-clause-turn
returns-in-Some-clause-turn g c =
    source-miss c.args.graph.now c.args.book.now (g.L.Lists.listing_of c.args.lists.now) c.args.version c.args.node _ (told c.is_source.result _ _ c.is_source.ensures c.if-is_source.false)
    (touch-miss c.args.graph.now c.args.book.now (g.L.Lists.listing_of c.args.lists.now) c.args.version c.args.node _ (told c.is_touched.result _ _ (c.is_touched.ensures ∙ seat-changed c.args.book.now c.args.version c.args.seat.now c.requires.seat _ ∙ ap (λ (ps : List ℕ). list_any (changes (bare c.args.book.now.book) c.args.version) (inputs_of (node_at c.args.graph.now c.args.node) ++ ps)) c.requires.picked) c.if-not-is_touched.false)
    (c.reading.ensures.turn ∙ gather-hit c.args.graph.now c.args.book.now (g.L.Lists.listing_of c.args.lists.now) c.args.version c.args.node c.in-Some.input (gathered-told c.args.book.now c.args.node c.inputs.result.now _ c.first_ungathered.result _ c.inputs.ensures c.first_ungathered.ensures c.in-Some.is)))

pub returns-clause-turn : goal.returns-clause-turn
returns-clause-turn g c =
    source-miss c.args.graph.now c.args.book.now (g.L.Lists.listing_of c.args.lists.now) c.args.version c.args.node _ (told c.is_source.result _ _ c.is_source.ensures c.if-is_source.false)
    (touch-miss c.args.graph.now c.args.book.now (g.L.Lists.listing_of c.args.lists.now) c.args.version c.args.node _ (told c.is_touched.result _ _ (c.is_touched.ensures ∙ seat-changed c.args.book.now c.args.version c.args.seat.now c.requires.seat _ ∙ ap (λ (ps : List ℕ). list_any (changes (bare c.args.book.now.book) c.args.version) (inputs_of (node_at c.args.graph.now c.args.node) ++ ps)) c.requires.picked) c.if-not-is_touched.false)
    (gather-miss c.args.graph.now c.args.book.now (g.L.Lists.listing_of c.args.lists.now) c.args.version c.args.node _ (gathered-told c.args.book.now c.args.node c.inputs.result.now _ c.first_ungathered.result _ c.inputs.ensures c.first_ungathered.ensures c.in_default.is)
    (evaluate-miss c.args.graph.now c.args.book.now (g.L.Lists.listing_of c.args.lists.now) c.args.version c.args.node _ (told c.is_found.result _ _ c.is_found.ensures c.if-not-is_found.false) c.at_found.ensures.turn)))
