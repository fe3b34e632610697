use Rattle.std.proofs.Common.{sym, ◌∙◌}
use Rattle.flow_model.specs.Machine.Words.{is_gathered}
use Rattle.flow_model.specs.Parts.Books.{bare}
use Rattle.step_rules.proofs.Going.{all_picks_failed}
use Rattle.step_rules.proofs.working.are_picks_gathered.Goals as goal

pub returns-then-not-is_pick_gathered : goal.returns-then-not-is_pick_gathered
returns-then-not-is_pick_gathered c = all_picks_failed (is_gathered (bare c.args.book.now.book) c.args.node) c.args.picks.now c.loop-index.index c.get.result _ c.get.ensures c.loop-index.invariant (sym c.is_pick_gathered.ensures ∙ c.if-not-is_pick_gathered.true)
