use Rattle.signal_graph.proofs.GraphNodes.{names_earlier, all_can_evaluate}
use Rattle.signal_graph.proofs.graph.make_graph.Goals as goal

pub static_outs-requires-clause-earlier : goal.static_outs-requires-clause-earlier
static_outs-requires-clause-earlier c = rw c.as_slice.ensures.value (names_earlier c.args.names c.args.nodes.items c.requires.nodes)

pub start_values-requires : goal.start_values-requires
start_values-requires c = rw c.as_slice-2.ensures.value (all_can_evaluate c.args.names c.args.nodes.items c.requires.nodes)

pub all_picks-requires : goal.all_picks-requires
all_picks-requires c = rw c.as_slice-3.ensures.value (all_can_evaluate c.args.names c.args.nodes.items c.requires.nodes)
