use Rattle.std.proofs.Common.{sym}
use Rattle.node_versions.proofs.Places.{take-up_to}
use Rattle.node_versions.proofs.laws.up_to_by_index.Goals as goal

pub returns : goal.returns
returns c = λ es t. sym (take-up_to es t)
