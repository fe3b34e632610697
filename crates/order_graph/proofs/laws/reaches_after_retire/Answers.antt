use Rattle.order_graph.proofs.Reaching.{reaches-retired}
use Rattle.order_graph.proofs.laws.reaches_after_retire.Goals as goal

pub returns : goal.returns
returns c = reaches-retired
