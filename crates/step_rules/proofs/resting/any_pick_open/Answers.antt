use Rattle.std.proofs.Common.{sym, ◌∙◌}
use Rattle.flow_model.specs.Machine.State.{opens}
use Rattle.flow_model.specs.Parts.Books.{bare}
use Rattle.flow_state.specs.Booked.{node_count}
use Rattle.step_rules.proofs.Going.{picks_below, any_picks_found}
use Rattle.step_rules.proofs.resting.any_pick_open.Goals as goal

pub is_pick_open-requires-clause-inside : goal.is_pick_open-requires-clause-inside
is_pick_open-requires-clause-inside c = picks_below (node_count c.args.book.now) c.args.picks.now c.loop-index.index c.get.result c.requires.inside c.get.ensures

pub returns-then-is_pick_open : goal.returns-then-is_pick_open
returns-then-is_pick_open c = any_picks_found (opens (bare c.args.book.now.book) c.args.version) c.args.picks.now c.loop-index.index c.get.result _ c.get.ensures c.loop-index.invariant (sym c.is_pick_open.ensures ∙ c.if-is_pick_open.true)
