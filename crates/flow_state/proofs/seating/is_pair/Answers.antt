use Rattle.std.proofs.Common.{◌∙◌, ap}
use Rattle.std.specs.Prelude.{is_some}
use Rattle.flow_state.proofs.PairLemmas.{pair-node}
use Rattle.flow_state.proofs.seating.is_pair.Goals as goal

pub returns : goal.returns
returns c = c.is_some.ensures ∙ ap is_some c.node_of.ensures ∙ pair-node c.args.order.now.pairs c.args.first c.args.second
