use Rattle.signal_graph.proofs.OnePassLaws.{skips}
use Rattle.signal_graph.proofs.laws.skips.Goals as goal

pub returns : goal.returns
returns c = skips
