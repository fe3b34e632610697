use Rattle.std.proofs.Common.{◌≡◌}
use Rattle.list_bench.proofs.orders.record_chain.Given as goal

abbrev pub invariant-loop-slot : goal.invariant-loop-slot
invariant-loop-slot l = l.order.callers ≡ l.callers
