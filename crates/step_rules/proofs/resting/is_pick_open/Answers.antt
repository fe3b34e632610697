use Rattle.std.proofs.Common.{subst, Option}
use Rattle.std.specs.Prelude.{ℕ, ◌∷◌, []}
use Rattle.signal_graph.specs.Values.{nodes_in}
use Rattle.flow_state.specs.Booked.{node_count}
use Rattle.step_rules.specs.Rests.{AreBelow}
use Rattle.step_rules.proofs.Going.{pick_below}
use Rattle.step_rules.proofs.resting.is_pick_open.Goals as goal

pub opens-requires-clause-node : goal.opens-requires-clause-node
opens-requires-clause-node c = pick_below (node_count c.args.book.now) c.in-Some.node (subst (λ (o : Option ℕ). AreBelow (node_count c.args.book.now) (nodes_in (o ∷ []))) c.in-Some.is c.requires.inside)
