use Rattle.std.proofs.Common.{◌≡◌, ◌+◌, length}
use Rattle.std.specs.Prelude.{All}
use Rattle.std.specs.Vec.Iter.{into_iter_items, into_iter_len}
use Rattle.serial_machine.specs.Progress.{all_called}
use Rattle.serial_machine.specs.Running.{IsWithinLimits}
use Rattle.serial_machine.proofs.run.Run.call_all.Given as goal

abbrev pub invariant-loop-call : goal.invariant-loop-call
invariant-loop-call l =
    (l.self.graph ≡ l.fn.self.graph)
    × (l.self.limit ≡ l.fn.self.limit)
    × (l.self.capacity ≡ l.fn.self.capacity)
    × (l.number + length (into_iter_items l.call-iterator) ≡ length l.fn.calls)
    × (into_iter_len l.call-iterator ≡ length (into_iter_items l.call-iterator))
    × All IsWithinLimits (into_iter_items l.call-iterator)
    × (all_called l.fn.self.graph l.fn.self.limit l.caller (l.number + 1) (into_iter_items l.call-iterator) l.self.progress ≡ all_called l.fn.self.graph l.fn.self.limit l.caller 1 l.fn.calls l.fn.self.progress)
