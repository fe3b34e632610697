use Rattle.std.proofs.Common.{◌≡◌, ◌++◌, drop}
use Rattle.flow_model.specs.Machine.Schedules.{all_refused}
use Rattle.replay_run.specs.Replaying.{threads_of}
use Rattle.replay_run.proofs.replaying.refused_of.Given as goal

abbrev pub invariant-loop-caller : goal.invariant-loop-caller
invariant-loop-caller l = l.refused ++ all_refused (drop l.caller-index (threads_of l.callers)) ≡ all_refused (threads_of l.callers)
