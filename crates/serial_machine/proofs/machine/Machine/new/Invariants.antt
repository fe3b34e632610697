use Rattle.std.proofs.Common.{◌≡◌, ◌<◌, ℕ, [], take, length, get_or}
use Rattle.signal_graph.specs.Values.{values, start, picks}
use Rattle.serial_machine.proofs.machine.Machine.new.Given as goal

abbrev pub invariant-loop-node : goal.invariant-loop-node
invariant-loop-node l = (l.values.items ≡ take l.node (values l.graph (start l.graph))) × (length l.picks.items ≡ l.node) × ((m : ℕ) → m < l.node → get_or l.picks.items m [] ≡ picks l.graph (start l.graph) m)
