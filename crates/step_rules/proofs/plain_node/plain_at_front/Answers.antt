use Rattle.std.proofs.Common.{◌∙◌}
use Rattle.step_rules.proofs.Inside.{inputs-fit, chosen-below}
use Rattle.step_rules.proofs.SeatReads.{seat-changed}
use Rattle.step_rules.proofs.Turns.{told, gathered-told, source-miss, touch-hit, touch-miss, gather-hit, gather-miss, evaluate-hit, evaluate-miss}
use Rattle.step_rules.proofs.PlainNodes.{plain-touch, plain-last}
use Rattle.step_rules.proofs.plain_node.plain_at_front.Goals as goal

pub returns-then-not-any_changed-clause-turn : goal.returns-then-not-any_changed-clause-turn
returns-then-not-any_changed-clause-turn g c =
    source-miss c.args.graph.now c.args.book.now (g.L.Lists.listing_of c.args.lists.now) c.args.version c.args.node _ (told c.is_source.result _ _ c.is_source.ensures c.if-is_source.false)
    (touch-hit c.args.graph.now c.args.book.now (g.L.Lists.listing_of c.args.lists.now) c.args.version c.args.node (plain-touch c.args.graph.now c.requires.whole.state c.args.book.now (g.L.Lists.listing_of c.args.lists.now) (g.L.Lists.nodes c.args.lists.now) c.requires.whole.whole c.args.version c.args.node c.requires.open c.requires.plain c.inputs-inputs.result.now c.any_changed.result _ c.inputs-inputs.ensures (c.any_changed.ensures ∙ seat-changed c.args.book.now c.args.version c.args.seat.now c.requires.seat _) c.if-not-any_changed.true))

pub reading-requires : goal.reading-requires
reading-requires g c =
    chosen-below (g.L.Lists.nodes c.args.lists.now) _ _ c.in-Some.input c.first_ungathered.result (inputs-fit c.args.graph.now c.requires.whole.state c.args.book.now (g.L.Lists.listing_of c.args.lists.now) (g.L.Lists.nodes c.args.lists.now) c.requires.whole.whole c.args.version c.args.node _ c.requires.open c.inputs-inputs.ensures) c.first_ungathered.ensures c.in-Some.is

pub returns-in-Some-clause-turn : goal.returns-in-Some-clause-turn
returns-in-Some-clause-turn g c =
    source-miss c.args.graph.now c.args.book.now (g.L.Lists.listing_of c.args.lists.now) c.args.version c.args.node _ (told c.is_source.result _ _ c.is_source.ensures c.if-is_source.false)
    (touch-miss c.args.graph.now c.args.book.now (g.L.Lists.listing_of c.args.lists.now) c.args.version c.args.node _ (plain-touch c.args.graph.now c.requires.whole.state c.args.book.now (g.L.Lists.listing_of c.args.lists.now) (g.L.Lists.nodes c.args.lists.now) c.requires.whole.whole c.args.version c.args.node c.requires.open c.requires.plain c.inputs-inputs.result.now c.any_changed.result _ c.inputs-inputs.ensures (c.any_changed.ensures ∙ seat-changed c.args.book.now c.args.version c.args.seat.now c.requires.seat _) c.if-not-any_changed.false)
    (c.reading.ensures.turn ∙ gather-hit c.args.graph.now c.args.book.now (g.L.Lists.listing_of c.args.lists.now) c.args.version c.args.node c.in-Some.input (gathered-told c.args.book.now c.args.node c.inputs-inputs.result.now _ c.first_ungathered.result _ c.inputs-inputs.ensures c.first_ungathered.ensures c.in-Some.is)))

pub returns-then-not-is_found-clause-turn : goal.returns-then-not-is_found-clause-turn
returns-then-not-is_found-clause-turn g c =
    source-miss c.args.graph.now c.args.book.now (g.L.Lists.listing_of c.args.lists.now) c.args.version c.args.node _ (told c.is_source.result _ _ c.is_source.ensures c.if-is_source.false)
    (touch-miss c.args.graph.now c.args.book.now (g.L.Lists.listing_of c.args.lists.now) c.args.version c.args.node _ (plain-touch c.args.graph.now c.requires.whole.state c.args.book.now (g.L.Lists.listing_of c.args.lists.now) (g.L.Lists.nodes c.args.lists.now) c.requires.whole.whole c.args.version c.args.node c.requires.open c.requires.plain c.inputs-inputs.result.now c.any_changed.result _ c.inputs-inputs.ensures (c.any_changed.ensures ∙ seat-changed c.args.book.now c.args.version c.args.seat.now c.requires.seat _) c.if-not-any_changed.false)
    (gather-miss c.args.graph.now c.args.book.now (g.L.Lists.listing_of c.args.lists.now) c.args.version c.args.node _ (gathered-told c.args.book.now c.args.node c.inputs-inputs.result.now _ c.first_ungathered.result _ c.inputs-inputs.ensures c.first_ungathered.ensures c.in_default.is)
    (evaluate-hit c.args.graph.now c.args.book.now (g.L.Lists.listing_of c.args.lists.now) c.args.version c.args.node (told c.is_found.result _ _ c.is_found.ensures c.if-not-is_found.true))))

pub returns-clause-turn : goal.returns-clause-turn
returns-clause-turn g c =
    source-miss c.args.graph.now c.args.book.now (g.L.Lists.listing_of c.args.lists.now) c.args.version c.args.node _ (told c.is_source.result _ _ c.is_source.ensures c.if-is_source.false)
    (touch-miss c.args.graph.now c.args.book.now (g.L.Lists.listing_of c.args.lists.now) c.args.version c.args.node _ (plain-touch c.args.graph.now c.requires.whole.state c.args.book.now (g.L.Lists.listing_of c.args.lists.now) (g.L.Lists.nodes c.args.lists.now) c.requires.whole.whole c.args.version c.args.node c.requires.open c.requires.plain c.inputs-inputs.result.now c.any_changed.result _ c.inputs-inputs.ensures (c.any_changed.ensures ∙ seat-changed c.args.book.now c.args.version c.args.seat.now c.requires.seat _) c.if-not-any_changed.false)
    (gather-miss c.args.graph.now c.args.book.now (g.L.Lists.listing_of c.args.lists.now) c.args.version c.args.node _ (gathered-told c.args.book.now c.args.node c.inputs-inputs.result.now _ c.first_ungathered.result _ c.inputs-inputs.ensures c.first_ungathered.ensures c.in_default.is)
    (evaluate-miss c.args.graph.now c.args.book.now (g.L.Lists.listing_of c.args.lists.now) c.args.version c.args.node _ (told c.is_found.result _ _ c.is_found.ensures c.if-not-is_found.false) (plain-last c.args.graph.now c.requires.whole.state c.args.book.now (g.L.Lists.listing_of c.args.lists.now) (g.L.Lists.nodes c.args.lists.now) c.requires.whole.whole c.args.version c.args.node c.requires.open c.requires.plain))))
