use Rattle.std.proofs.Common.{ℕ, List, false, drop, ap, ◌∙◌}
use Rattle.signal_graph.specs.Values.{nodes_in}
use Rattle.node_versions.specs.Entries.{Versions}
use Rattle.flow_model.specs.Machine.Next.{first_of}
use Rattle.flow_model.specs.Parts.Books.{bare}
use Rattle.step_rules.specs.Points.{framing_in, open_given, points_in}
use Rattle.step_rules.proofs.Inside.{own-entry, own-done, picked-fit, inputs-below, open-below, counted}
use Rattle.step_rules.proofs.Turns.{told, bare-back, input-miss, help-hit, help-miss}
use Rattle.step_rules.proofs.open_node.at_choose.Goals as goal

pub picks_before-picks-requires-clause-entry : goal.picks_before-picks-requires-clause-entry
picks_before-picks-requires-clause-entry g c = own-entry c.args.graph.now c.requires.whole.state c.args.book.now (g.L.Lists.listing_of c.args.lists.now) (g.L.Lists.nodes c.args.lists.now) c.requires.whole.whole c.args.version c.args.node c.requires.open

pub picks_before-picks-requires-clause-done : goal.picks_before-picks-requires-clause-done
picks_before-picks-requires-clause-done g c = own-done c.args.graph.now c.requires.whole.state c.args.book.now (g.L.Lists.listing_of c.args.lists.now) (g.L.Lists.nodes c.args.lists.now) c.requires.whole.whole c.args.version c.args.node c.requires.live c.requires.open

pub input_open-requires-clause-inputs : goal.input_open-requires-clause-inputs
input_open-requires-clause-inputs g c = counted c.args.graph.now c.requires.whole.state c.args.book.now (g.L.Lists.listing_of c.args.lists.now) (g.L.Lists.nodes c.args.lists.now) c.requires.whole.whole _ (inputs-below c.args.graph.now c.requires.whole.state c.args.book.now (g.L.Lists.listing_of c.args.lists.now) (g.L.Lists.nodes c.args.lists.now) c.requires.whole.whole c.args.node (open-below c.args.graph.now c.requires.whole.state c.args.book.now (g.L.Lists.listing_of c.args.lists.now) (g.L.Lists.nodes c.args.lists.now) c.requires.whole.whole c.args.version c.args.node c.requires.open))

pub input_open-requires-clause-picked : goal.input_open-requires-clause-picked
input_open-requires-clause-picked g c = counted c.args.graph.now c.requires.whole.state c.args.book.now (g.L.Lists.listing_of c.args.lists.now) (g.L.Lists.nodes c.args.lists.now) c.requires.whole.whole _ (picked-fit c.args.graph.now c.requires.whole.state c.args.book.now (g.L.Lists.listing_of c.args.lists.now) (g.L.Lists.nodes c.args.lists.now) c.requires.whole.whole c.args.version c.args.node _ c.requires.open (c.as_slice.ensures.value ∙ c.nodes_in-picked.ensures ∙ ap nodes_in c.picks_before-picks.ensures.result))

pub returns-in-Some-to_help-clause-turn : goal.returns-in-Some-to_help-clause-turn
returns-in-Some-to_help-clause-turn g c =
    input-miss c.args.graph.now c.args.book.now (g.L.Lists.listing_of c.args.lists.now) c.args.version c.args.node c.args.given _ (told c.input_open.result _ _ (c.input_open.ensures ∙ ap (λ (ps : List ℕ). open_given c.args.graph.now c.args.book.now c.args.version c.args.node ps c.args.given) (c.as_slice.ensures.value ∙ c.nodes_in-picked.ensures ∙ ap nodes_in c.picks_before-picks.ensures.result)) c.in_default.is)
    (c.framing.ensures.turn ∙ ap (λ (ls : ℕ → Versions). framing_in c.args.book.now ls c.in-Some-to_help.later c.args.node) c.picks_before-picks.ensures.lists
    ∙ help-hit c.args.graph.now c.args.book.now (g.L.Lists.listing_of c.args.lists.now) c.args.version c.args.node c.in-Some-to_help.later (told c.to_help.result _ _ (c.to_help.ensures.least (bare c.args.book.now.book) (bare-back c.args.book.now.book)) c.in-Some-to_help.is))

pub returns-clause-turn : goal.returns-clause-turn
returns-clause-turn g c =
    input-miss c.args.graph.now c.args.book.now (g.L.Lists.listing_of c.args.lists.now) c.args.version c.args.node c.args.given _ (told c.input_open.result _ _ (c.input_open.ensures ∙ ap (λ (ps : List ℕ). open_given c.args.graph.now c.args.book.now c.args.version c.args.node ps c.args.given) (c.as_slice.ensures.value ∙ c.nodes_in-picked.ensures ∙ ap nodes_in c.picks_before-picks.ensures.result)) c.in_default.is)
    (help-miss c.args.graph.now c.args.book.now (g.L.Lists.listing_of c.args.lists.now) c.args.version c.args.node _ (told c.to_help.result _ _ (c.to_help.ensures.least (bare c.args.book.now.book) (bare-back c.args.book.now.book)) c.in_default-to_help.is)
    (c.at_front.ensures.turn ∙ ap (λ (ls : ℕ → Versions). first_of (drop 3 (points_in c.args.graph.now c.args.book.now ls c.args.version false c.args.node))) c.picks_before-picks.ensures.lists))
