-- What threads may share: a sweeper, since they may share the graph that lies under its lock.
use denote.RattleType.{RattleType}
use denote.Ref.{NamedLft}
use denote.Param.Send.{IsSend, IsSync, sendable}
use Rattle.std.proofs.Crossing.{crosses}
use Rattle.script_tree.proofs.expr.Expr.TheLaws.TheKnot.{sync-Expr}
use Rattle.script_tree.proofs.expr.Unary.TheSendSync as unary
use Rattle.script_tree.proofs.expr.Binary.TheSendSync as binary
use Rattle.script_tree.proofs.name.Name.TheSendSync as name
use Rattle.script_tree.proofs.picks.Picks.TheSendSync as picks
use Rattle.script_tree.proofs.value.Value.TheSendSync as value
use Rattle.signal_graph.proofs.call.Call.TheSendSync as call
use Rattle.signal_graph.proofs.names.NameTable.TheSendSync as names
use Rattle.script_tree.specs.contracts.items.Items as Items
use Rattle.script_tree.specs.contracts.script.Script as Script
use Rattle.signal_graph.specs.contracts.call.Call as Call
use Rattle.signal_graph.specs.contracts.node.Node as Node
use Rattle.signal_graph.specs.contracts.graph.Graph as Graph
use Rattle.flow_state.proofs.book.Book.TheSendSync as book
use Rattle.node_versions.proofs.list.NodeList.TheSendSync as list
use Rattle.chronicle.proofs.writer.Writer.TheSendSync as writer
use Rattle.interleave_core.specs.contracts.core_state.Core as Core
use Rattle.node_set.proofs.node_set.NodeSet.TheSendSync as nodes
use Rattle.sweeper.specs.declared.naming.Naming.{Ghosts}
use Rattle.sweeper.specs.contracts.locked.Locked as Locked
use Rattle.sweeper.specs.contracts.shared.Sweeper as Sweeper

script_sync : IsSync Script.the_row
script_sync = search (sync-Expr, unary.the_field_sync, binary.the_field_sync, name.the_sync, sendable, crosses) depth 30

node_sync : IsSync Node.the_row
node_sync = search (script_sync, value.the_field_sync, sendable, crosses) depth 40

graph_sync : IsSync Graph.the_row
graph_sync = search (node_sync, value.the_sync, picks.the_sync, names.the_sync, sendable, crosses) depth 40

pub calls_sync : IsSync (Items.the_row Call.the_row)
calls_sync = search (call.the_sync, sendable, crosses) depth 40

core_send : (κ : NamedLft) → IsSend (Core.the_row κ)
core_send κ = search (graph_sync, book.the_send, list.the_send, value.the_send, sendable, crosses) depth 40

module _ (κ : NamedLft) (J : RattleType) (j : Ghosts J.Denot) where
  locked_send : IsSend J → IsSend (Locked.the_row κ J j)
  locked_send s = search (core_send, writer.the_send, sendable, crosses) depth 40

  pub sweeper_sync : IsSend J → IsSync (Sweeper.the_row κ J j)
  sweeper_sync s = search (locked_send, nodes.the_sync, sendable, crosses) depth 40
