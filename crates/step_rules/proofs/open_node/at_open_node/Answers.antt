use Rattle.std.proofs.Common.{ℕ, drop, ap, ◌∙◌}
use Rattle.node_versions.specs.Entries.{Versions}
use Rattle.flow_model.specs.Machine.Next.{first_of, other_than}
use Rattle.step_rules.specs.Points.{points_in}
use Rattle.step_rules.proofs.Turns.{told, blocked-miss}
use Rattle.step_rules.proofs.open_node.at_open_node.Goals as goal

pub returns-then-is_choose-clause-turn : goal.returns-then-is_choose-clause-turn
returns-then-is_choose-clause-turn g c =
    blocked-miss c.args.graph.now c.args.book.now (g.L.Lists.listing_of c.args.lists.now) c.args.version c.args.node c.args.given _ (told c.other_than.result _ _ (c.other_than.ensures ∙ ap (other_than c.args.version) c.first_open-first.ensures.result) c.in_default.is)
    (c.at_choose.ensures.turn ∙ ap (λ (ls : ℕ → Versions). first_of (drop 1 (points_in c.args.graph.now c.args.book.now ls c.args.version c.args.given c.args.node))) c.first_open-first.ensures.lists)

pub returns-clause-turn : goal.returns-clause-turn
returns-clause-turn g c =
    blocked-miss c.args.graph.now c.args.book.now (g.L.Lists.listing_of c.args.lists.now) c.args.version c.args.node c.args.given _ (told c.other_than.result _ _ (c.other_than.ensures ∙ ap (other_than c.args.version) c.first_open-first.ensures.result) c.in_default.is)
    (c.at_plain.ensures.turn ∙ ap (λ (ls : ℕ → Versions). first_of (drop 1 (points_in c.args.graph.now c.args.book.now ls c.args.version c.args.given c.args.node))) c.first_open-first.ensures.lists)
