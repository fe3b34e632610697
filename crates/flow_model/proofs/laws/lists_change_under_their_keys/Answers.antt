use Rattle.flow_model.proofs.Others.ListsUnderTheirKeys.{moves-other_list}
use Rattle.flow_model.proofs.laws.lists_change_under_their_keys.Goals as goal

pub returns : goal.returns
returns c = moves-other_list
