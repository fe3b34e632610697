use Rattle.node_versions.proofs.Indexes.{active_is_not_behind}
use Rattle.node_versions.proofs.laws.active_is_not_behind.Goals as goal

pub returns : goal.returns
returns c = active_is_not_behind
