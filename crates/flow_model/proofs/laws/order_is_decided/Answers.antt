use Rattle.flow_model.proofs.OneList.OrderIsDecided.{precedes-decides}
use Rattle.flow_model.proofs.laws.order_is_decided.Goals as goal

pub returns : goal.returns
returns c = precedes-decides
