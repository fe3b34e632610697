use Rattle.std.proofs.Common.{◌≡◌, ◌+◌, ◌<◌, ◌^◌, List, length}
use Rattle.std.specs.Prelude.{All}
use Rattle.std.specs.Vec.Iter.{into_iter_items, into_iter_len}
use Rattle.signal_graph.specs.declared.call.Call.{Call}
use Rattle.serial_machine.specs.Progress.{all_run, nothing_yet}
use Rattle.serial_machine.specs.Running.{IsWithinLimits}
use Rattle.serial_machine.proofs.run.serial_owned.Given as goal

abbrev pub invariant-loop-calls : goal.invariant-loop-calls
invariant-loop-calls l =
    (l.run.graph ≡ l.graph)
    × (l.run.limit ≡ l.versions)
    × (l.run.capacity ≡ l.count)
    × (l.caller + length (into_iter_items l.calls-iterator) ≡ length l.fn.scripts)
    × (into_iter_len l.calls-iterator ≡ length (into_iter_items l.calls-iterator))
    × All (λ (calls : List Call). length calls < 2 ^ 32) (into_iter_items l.calls-iterator)
    × All (All IsWithinLimits) (into_iter_items l.calls-iterator)
    × (all_run l.graph l.versions (l.caller + 1) (into_iter_items l.calls-iterator) l.run.progress ≡ all_run l.graph l.versions 1 l.fn.scripts nothing_yet)
