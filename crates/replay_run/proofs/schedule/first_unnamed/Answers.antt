use Rattle.std.proofs.Common.{sym, ◌∙◌}
use Rattle.replay_run.proofs.Unnamed.{named-here, none-unnamed}
use Rattle.replay_run.proofs.schedule.first_unnamed.Goals as goal

pub loop-index-preserved : goal.loop-index-preserved
loop-index-preserved c =
    let at = c.loop-index in
    sym (named-here c.args.threads c.args.schedule.now at.index c.loop-index-test.true (sym c.names_thread.ensures ∙ c.if-not-names_thread.false)) ∙ at.invariant

pub returns : goal.returns
returns c =
    let at = c.loop-index in
    sym (none-unnamed c.args.threads c.args.schedule.now at.index c.loop-index-test.false) ∙ at.invariant
