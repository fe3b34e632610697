use Rattle.flow_model.proofs.Together.NextIsAllowed.{next_at-allowed}
use Rattle.flow_model.proofs.laws.next_at_is_allowed.Goals as goal

pub returns : goal.returns
returns c = next_at-allowed
