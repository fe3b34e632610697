use Rattle.order_graph.proofs.Reaching.{reaches-linked}
use Rattle.order_graph.proofs.laws.reaches_after_link.Goals as goal

pub returns : goal.returns
returns c = reaches-linked
