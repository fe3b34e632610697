use Rattle.std.proofs.Common.{◌≡◌, length, take}
use Rattle.report_check.proofs.same.same_values.Given as goal

abbrev pub invariant-loop-index : goal.invariant-loop-index
invariant-loop-index l = (length l.left ≡ length l.right) × (take l.index l.left ≡ take l.index l.right)
