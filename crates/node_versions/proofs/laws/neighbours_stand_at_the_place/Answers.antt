use Rattle.node_versions.proofs.Neighbours.{right-at, left-at}
use Rattle.node_versions.proofs.laws.neighbours_stand_at_the_place.Goals as goal

pub returns-clause-right : goal.returns-clause-right
returns-clause-right c = right-at

pub returns-clause-left : goal.returns-clause-left
returns-clause-left c = left-at
