use Rattle.signal_graph.proofs.Literal.{literal, length-after}
use Rattle.signal_graph.proofs.laws.literal.Goals as goal

pub returns-clause-pass : goal.returns-clause-pass
returns-clause-pass c = literal

pub returns-clause-size : goal.returns-clause-size
returns-clause-size c = length-after
