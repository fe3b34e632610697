use Rattle.std.proofs.Common.{refl}
use Rattle.node_set.specs.Bits.{without_bit}
use Rattle.node_set.proofs.bits.clear.Goals as goal

pub returns : goal.returns
unfolding without_bit
returns c = refl
