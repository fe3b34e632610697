use Rattle.std.proofs.Common.{◌≡◌, map}
use Rattle.std.specs.List.{range_with_len}
use Rattle.interleave_core.specs.Opening.{bare_list}
use Rattle.interleave_core.proofs.opening.bare_lists.Given as goal

abbrev pub invariant-loop-node : goal.invariant-loop-node
invariant-loop-node l = l.lists.items ≡ map (bare_list l.graph l.callers) (range_with_len 0 l.node)
