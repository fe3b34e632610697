use Rattle.std.proofs.Common.{◌≡◌, take, map}
use Rattle.std.specs.Vec.{vec_capacity}
use Rattle.interleave_core.specs.Ending.{last_value}
use Rattle.interleave_core.proofs.ending.values_of.Given as goal

abbrev pub invariant-loop-list : goal.invariant-loop-list
invariant-loop-list l = (l.values.items ≡ map last_value (take l.list-index l.lists)) × (vec_capacity l.values ≡ vec_capacity l.fn.room)
