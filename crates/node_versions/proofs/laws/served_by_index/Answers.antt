use Rattle.node_versions.proofs.Indexes.{served_by_index}
use Rattle.node_versions.proofs.laws.served_by_index.Goals as goal

pub returns : goal.returns
returns c = served_by_index
