use Rattle.std.proofs.Common.{ℕ, ◌<◌, false, ap, sym, subst, ◌∙◌}
use Rattle.node_versions.specs.Entries.{Versions}
use Rattle.flow_model.specs.Machine.Next.{first_of}
use Rattle.step_rules.specs.Points.{points_in}
use Rattle.step_rules.proofs.Inside.{look-below}
use Rattle.step_rules.proofs.SeatReads.{seat-open, seat-look}
use Rattle.step_rules.proofs.Turns.{open-next}
use Rattle.step_rules.proofs.next_step.turn_of.Goals as goal

pub returns-in-Some-first_open-clause-turn : goal.returns-in-Some-first_open-clause-turn
returns-in-Some-first_open-clause-turn g c =
    open-next c.args.graph.now c.args.book.now (g.L.Lists.listing_of c.args.lists.now) c.args.version c.in-Some-first_open.node _ (sym c.in_default.is ∙ c.before_work.ensures.turn c.args.graph.now) (sym (c.first_open.ensures ∙ seat-open c.args.book.now c.args.version c.seat-seat.result.now (record { call = c.seat-seat.ensures.call; size = c.seat-seat.ensures.size })) ∙ c.in-Some-first_open.is)
    (c.at_open_node.ensures.turn ∙ ap (λ (ls : ℕ → Versions). first_of (points_in c.args.graph.now c.args.book.now ls c.args.version false c.in-Some-first_open.node)) c.before_work.ensures.lists)

pub reading-requires : goal.reading-requires
reading-requires g c = subst (λ (k : ℕ). c.in-Some-next_look.node < k) (sym c.before_work.ensures.nodes) (look-below c.args.graph.now c.requires.whole.state c.args.book.now (g.L.Lists.listing_of c.args.lists.now) (g.L.Lists.nodes c.args.lists.now) c.requires.whole.whole c.args.version c.in-Some-next_look.node c.requires.live (sym (c.next_look.ensures ∙ seat-look c.args.book.now c.args.version c.seat-seat.result.now (record { call = c.seat-seat.ensures.call; size = c.seat-seat.ensures.size })) ∙ c.in-Some-next_look.is))
