use Rattle.node_versions.proofs.Indexes.{behind_by_index}
use Rattle.node_versions.proofs.laws.behind_by_index.Goals as goal

pub returns : goal.returns
returns c = behind_by_index
