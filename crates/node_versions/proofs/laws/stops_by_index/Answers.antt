use Rattle.node_versions.proofs.FromEnd.{stops_behind, stops_to_the_end}
use Rattle.node_versions.proofs.laws.stops_by_index.Goals as goal

pub returns-clause-behind : goal.returns-clause-behind
returns-clause-behind c = stops_behind

pub returns-clause-to_the_end : goal.returns-clause-to_the_end
returns-clause-to_the_end c = stops_to_the_end
