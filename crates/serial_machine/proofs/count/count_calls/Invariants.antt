use Rattle.std.proofs.Common.{◌≡◌, ◌+◌, ◌-◌, ◌≤◌, min, drop, length}
use Rattle.std.specs.Prelude.{sum_by}
use Rattle.serial_machine.proofs.count.count_calls.Given as goal

abbrev pub invariant-loop-calls : goal.invariant-loop-calls
invariant-loop-calls l = (l.count ≤ l.most) × (l.count + min (l.most - l.count) (sum_by length (drop l.calls-index l.scripts)) ≡ min l.most (sum_by length l.scripts))
