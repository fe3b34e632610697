use Rattle.std.proofs.Common.{◌+◌}
use Rattle.list_bench.specs.Opened.{IsOpened}
use Rattle.list_bench.proofs.lists.count.Given as goal

abbrev pub invariant-loop : goal.invariant-loop
invariant-loop l = IsOpened (l.callers + 9) l.list
