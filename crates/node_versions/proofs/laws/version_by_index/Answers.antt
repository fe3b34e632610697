use Rattle.node_versions.proofs.Indexes.{version_at_place}
use Rattle.node_versions.proofs.laws.version_by_index.Goals as goal

pub returns : goal.returns
returns c = version_at_place
