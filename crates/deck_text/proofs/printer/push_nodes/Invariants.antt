use Rattle.std.proofs.Common.{◌≡◌, drop}
use Rattle.deck_text.specs.Appended.{with_nodes}
use Rattle.deck_text.proofs.printer.push_nodes.Given as goal

abbrev pub invariant-loop-node : goal.invariant-loop-node
invariant-loop-node l = with_nodes l.graph l.initial.text 0 l.graph.nodes ≡ with_nodes l.graph l.text l.node (drop l.node l.graph.nodes)
