use Rattle.node_set.proofs.BitLemmas.{is_set-read}
use Rattle.node_set.proofs.bits.is_set.Goals as goal

pub returns : goal.returns
returns c = is_set-read c.args.words.now c.args.bit
