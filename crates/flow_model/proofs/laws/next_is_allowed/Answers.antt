use Rattle.flow_model.proofs.Together.NextIsAllowed.{next-allowed}
use Rattle.flow_model.proofs.laws.next_is_allowed.Goals as goal

pub returns : goal.returns
returns c = next-allowed
