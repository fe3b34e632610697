use Rattle.std.proofs.Common.{◌+◌, ◌++◌, List, drop, ap, ◌∙◌}
use Rattle.signal_graph.specs.declared.log.Refused.{Refused}
use Rattle.flow_model.specs.Machine.Schedules.{all_refused}
use Rattle.replay_run.specs.Replaying.{threads_of}
use Rattle.replay_run.proofs.Seats.{more-refused}
use Rattle.replay_run.proofs.replaying.refused_of.Goals as goal

pub loop-caller-preserved : goal.loop-caller-preserved
loop-caller-preserved c =
    let at = c.loop-caller in
    ap (λ (rs : List Refused). rs ++ all_refused (drop (at.caller-index + 1) (threads_of c.args.callers.now))) (c.in_ok-extend_from_slice.ensures.ok ∙ ap (λ (rs : List Refused). at.refused ++ rs) c.refused.ensures)
    ∙ more-refused c.args.callers.now at.caller-index c.caller-item.result at.refused c.loop-caller-test.true c.caller-item.is at.invariant
