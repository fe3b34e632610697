use Rattle.std.proofs.Common.{[]}
use Rattle.signal_graph.proofs.Values.{values_are, length-values}
use Rattle.signal_graph.proofs.OnePassLaws.{values_of_values}
use Rattle.signal_graph.proofs.laws.values_are.Goals as goal

pub returns-clause-each : goal.returns-clause-each
returns-clause-each c graph is_graph kept n within = values_are graph kept n is_graph.nodes within

pub returns-clause-all : goal.returns-clause-all
returns-clause-all c = length-values

pub returns-clause-again : goal.returns-clause-again
returns-clause-again c graph kept = values_of_values graph.nodes [] kept
