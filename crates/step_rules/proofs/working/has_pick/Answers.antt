use Rattle.std.proofs.Common.{sym, ◌∙◌}
use Rattle.std.specs.Prelude.{◌==◌}
use Rattle.step_rules.proofs.Going.{any_picks_found}
use Rattle.step_rules.proofs.working.has_pick.Goals as goal

pub returns-then-is_pick : goal.returns-then-is_pick
returns-then-is_pick c = any_picks_found (λ m. m == c.args.node) c.args.picks.now c.loop-index.index c.get.result _ c.get.ensures c.loop-index.invariant (sym c.is_pick.ensures ∙ c.if-is_pick.true)
