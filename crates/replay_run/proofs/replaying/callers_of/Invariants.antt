use Rattle.std.proofs.Common.{◌≡◌, ◌<◌, ◌^◌, ◌++◌, List, map, length}
use Rattle.std.specs.Prelude.{All}
use Rattle.std.specs.Vec.Iter.{into_iter_items, into_iter_len}
use Rattle.signal_graph.specs.declared.call.Call.{Call}
use Rattle.replay_run.specs.Replaying.{new_caller}
use Rattle.replay_run.proofs.replaying.callers_of.Given as goal

abbrev pub invariant-loop-calls : goal.invariant-loop-calls
invariant-loop-calls l =
    (l.callers.items ++ map new_caller (into_iter_items l.calls-iterator) ≡ map new_caller l.fn.scripts)
    × (into_iter_len l.calls-iterator ≡ length (into_iter_items l.calls-iterator))
    × All (λ (calls : List Call). length calls < 2 ^ 32) (into_iter_items l.calls-iterator)
