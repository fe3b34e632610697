use Rattle.flow_state.specs.Booked.{node_count}
use Rattle.step_rules.proofs.Going.{inputs_below, prior_below}
use Rattle.std.proofs.Common.{subst, sym, List, ℕ}
use Rattle.step_rules.specs.Rests.{AreBelow}
use Rattle.step_rules.proofs.resting.rests_on_open.Goals as goal

pub any_open-requires-clause-inside : goal.any_open-requires-clause-inside
any_open-requires-clause-inside c = subst (λ (ns : List ℕ). AreBelow (node_count c.args.book.now) ns) (sym c.inputs.ensures) (inputs_below (node_count c.args.book.now) c.args.graph.now c.args.node c.args.picks.now c.requires.inside)

pub any_pick_open-requires-clause-inside : goal.any_pick_open-requires-clause-inside
any_pick_open-requires-clause-inside c = prior_below (node_count c.args.book.now) c.args.graph.now c.args.node c.args.picks.now c.requires.inside
