use Rattle.order_graph.proofs.Reaching.{decides}
use Rattle.order_graph.proofs.laws.reaches_decides.Goals as goal

pub returns : goal.returns
returns c = decides
