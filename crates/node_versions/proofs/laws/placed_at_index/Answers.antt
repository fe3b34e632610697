use Rattle.node_versions.proofs.Lists.{placed-insert}
use Rattle.node_versions.proofs.laws.placed_at_index.Goals as goal

pub returns : goal.returns
returns c = placed-insert
