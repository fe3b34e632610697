use Rattle.std.proofs.Common.{refl}
use Rattle.node_set.specs.Bits.{with_bit}
use Rattle.node_set.proofs.bits.set.Goals as goal

pub returns : goal.returns
unfolding with_bit
returns c = refl
