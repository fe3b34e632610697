use Rattle.std.proofs.Common.{◌≡◌}
use Rattle.list_bench.proofs.orders.count.Given as goal

abbrev pub invariant-loop-round : goal.invariant-loop-round
invariant-loop-round l = l.order.callers ≡ l.callers
