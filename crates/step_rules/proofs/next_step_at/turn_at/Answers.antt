use Rattle.std.proofs.Common.{ℕ, true, ap, sym, ◌∙◌}
use Rattle.node_versions.specs.Entries.{Versions}
use Rattle.flow_model.specs.Machine.Next.{first_of}
use Rattle.step_rules.specs.Points.{points_in}
use Rattle.step_rules.proofs.SeatReads.{seat-opens}
use Rattle.step_rules.proofs.Turns.{open-next_at}
use Rattle.step_rules.proofs.next_step_at.turn_at.Goals as goal

pub returns-clause-turn : goal.returns-clause-turn
returns-clause-turn g c =
    open-next_at c.args.graph.now c.args.book.now (g.L.Lists.listing_of c.args.lists.now) c.args.version c.args.node _ (sym c.in_default.is ∙ c.before_work.ensures.turn c.args.graph.now) (sym (c.opens.ensures ∙ seat-opens c.args.book.now c.args.version c.seat-seat.result.now (record { call = c.seat-seat.ensures.call; size = c.seat-seat.ensures.size }) c.args.node) ∙ c.if-not-opens.false)
    (c.at_open_node.ensures.turn ∙ ap (λ (ls : ℕ → Versions). first_of (points_in c.args.graph.now c.args.book.now ls c.args.version true c.args.node)) c.before_work.ensures.lists)
