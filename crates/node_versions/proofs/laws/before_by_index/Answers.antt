use Rattle.std.proofs.Common.{sym}
use Rattle.node_versions.proofs.Places.{take-before}
use Rattle.node_versions.proofs.laws.before_by_index.Goals as goal

pub returns : goal.returns
returns c = λ es t. sym (take-before es t)
