use Rattle.std.proofs.Common.{◌≡◌, take, vec_capacity}
use Rattle.sweeper.proofs.locked.values_in.Given as goal

abbrev pub invariant-loop-value : goal.invariant-loop-value
invariant-loop-value l = (l.room.items ≡ take l.value-index l.values) × (vec_capacity l.room ≡ vec_capacity l.fn.room)
