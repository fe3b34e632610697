use Rattle.std.proofs.Common.{◌∙◌}
use Rattle.flow_model.specs.Parts.Books.{bare}
use Rattle.step_rules.proofs.Inside.{inputs-below, open-below, counted}
use Rattle.step_rules.proofs.Turns.{told, bare-back, input-hit, input-miss, help-hit, help-miss}
use Rattle.step_rules.proofs.PlainNodes.{none-below, plain-open}
use Rattle.step_rules.proofs.plain_node.at_plain.Goals as goal

pub input_open-requires-clause-inputs : goal.input_open-requires-clause-inputs
input_open-requires-clause-inputs g c = counted c.args.graph.now c.requires.whole.state c.args.book.now (g.L.Lists.listing_of c.args.lists.now) (g.L.Lists.nodes c.args.lists.now) c.requires.whole.whole _ (inputs-below c.args.graph.now c.requires.whole.state c.args.book.now (g.L.Lists.listing_of c.args.lists.now) (g.L.Lists.nodes c.args.lists.now) c.requires.whole.whole c.args.node (open-below c.args.graph.now c.requires.whole.state c.args.book.now (g.L.Lists.listing_of c.args.lists.now) (g.L.Lists.nodes c.args.lists.now) c.requires.whole.whole c.args.version c.args.node c.requires.open))

pub input_open-requires-clause-picked : goal.input_open-requires-clause-picked
input_open-requires-clause-picked g c = none-below _

pub returns-in-Some-clause-turn : goal.returns-in-Some-clause-turn
returns-in-Some-clause-turn g c =
    input-hit c.args.graph.now c.args.book.now (g.L.Lists.listing_of c.args.lists.now) c.args.version c.args.node c.args.given c.in-Some.input (plain-open c.args.graph.now c.requires.whole.state c.args.book.now (g.L.Lists.listing_of c.args.lists.now) (g.L.Lists.nodes c.args.lists.now) c.requires.whole.whole c.args.version c.args.node c.requires.open c.requires.plain c.args.given c.input_open.result _ c.input_open.ensures c.in-Some.is)

pub returns-in-Some-to_help-clause-turn : goal.returns-in-Some-to_help-clause-turn
returns-in-Some-to_help-clause-turn g c =
    input-miss c.args.graph.now c.args.book.now (g.L.Lists.listing_of c.args.lists.now) c.args.version c.args.node c.args.given _ (plain-open c.args.graph.now c.requires.whole.state c.args.book.now (g.L.Lists.listing_of c.args.lists.now) (g.L.Lists.nodes c.args.lists.now) c.requires.whole.whole c.args.version c.args.node c.requires.open c.requires.plain c.args.given c.input_open.result _ c.input_open.ensures c.in_default.is)
    (c.framing.ensures.turn ∙ help-hit c.args.graph.now c.args.book.now (g.L.Lists.listing_of c.args.lists.now) c.args.version c.args.node c.in-Some-to_help.later (told c.to_help.result _ _ (c.to_help.ensures.least (bare c.args.book.now.book) (bare-back c.args.book.now.book)) c.in-Some-to_help.is))

pub returns-clause-turn : goal.returns-clause-turn
returns-clause-turn g c =
    input-miss c.args.graph.now c.args.book.now (g.L.Lists.listing_of c.args.lists.now) c.args.version c.args.node c.args.given _ (plain-open c.args.graph.now c.requires.whole.state c.args.book.now (g.L.Lists.listing_of c.args.lists.now) (g.L.Lists.nodes c.args.lists.now) c.requires.whole.whole c.args.version c.args.node c.requires.open c.requires.plain c.args.given c.input_open.result _ c.input_open.ensures c.in_default.is)
    (help-miss c.args.graph.now c.args.book.now (g.L.Lists.listing_of c.args.lists.now) c.args.version c.args.node _ (told c.to_help.result _ _ (c.to_help.ensures.least (bare c.args.book.now.book) (bare-back c.args.book.now.book)) c.in_default-to_help.is)
    c.plain_at_front.ensures.turn)
