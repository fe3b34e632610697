use Rattle.std.proofs.Common.{◌+◌}
use Rattle.list_bench.specs.Opened.{IsOpened}
use Rattle.list_bench.proofs.lists.fill.Given as goal

abbrev pub invariant-loop-version : goal.invariant-loop-version
invariant-loop-version l = IsOpened (l.callers + 9) l.list
