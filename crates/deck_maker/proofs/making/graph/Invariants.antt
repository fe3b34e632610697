use Rattle.std.proofs.Common.{◌≡◌, ◌-◌}
use Rattle.separate_decks.specs.Draws.{skip}
use Rattle.separate_decks.specs.Workload.{declared, AreAccepted, workload_graph}
use Rattle.deck_maker.specs.Nodes.{nodes_from, state_behind}
use Rattle.deck_maker.proofs.making.graph.Given as goal

-- the builder accepts the nodes that are still to come, and they make the whole graph
abbrev pub invariant-loop-node : goal.invariant-loop-node
invariant-loop-node l =
    AreAccepted l.builder (nodes_from (216 - l.node) l.node l.draws)
    × (declared l.builder (nodes_from (216 - l.node) l.node l.draws) ≡ workload_graph l.initial.draws)
    × (state_behind (216 - l.node) l.node l.draws ≡ skip 560 l.initial.draws)
