-- After every history states name nodes of the graph and are bounded, with the callers and the limit of the opening state.
use Rattle.std.proofs.Common.{◌≡◌, ℕ, true, List}
use Rattle.signal_graph.specs.Graph.{Graph, IsGraph}
use Rattle.flow_model.specs.Machine.Histories.{Move, state, is_history}
use Rattle.flow_model.specs.Follows.Bounds.{NamesNodes, HasBounds}
use Rattle.flow_model.proofs.Histories.Moves.{KeepsLawful, history-lawful}
use Rattle.flow_model.proofs.Callers.CallersHaveTheirCalls.{history-counts}
use Rattle.flow_model.proofs.Known.Bounds.{names-nodes, has-bounds}

pub history-nodes : (graph : Graph) → IsGraph graph → KeepsLawful graph → (callers limit : ℕ) (moves : List Move) → is_history graph callers limit moves ≡ true → NamesNodes graph (state graph callers limit moves)
history-nodes graph g keeps callers limit moves m = names-nodes graph g (state graph callers limit moves) (history-lawful graph g keeps callers limit moves m)

pub history-bounds : (graph : Graph) → IsGraph graph → KeepsLawful graph → (callers limit : ℕ) (moves : List Move) → is_history graph callers limit moves ≡ true → HasBounds graph (state graph callers limit moves)
history-bounds graph g keeps callers limit moves m = has-bounds graph g (state graph callers limit moves) (history-lawful graph g keeps callers limit moves m)

-- Callers and limit are those of the opening state.
pub history-counted : (graph : Graph) (callers limit : ℕ) (moves : List Move) → is_history graph callers limit moves ≡ true → ((state graph callers limit moves).callers ≡ callers) × ((state graph callers limit moves).limit ≡ limit)
history-counted graph callers limit moves m = let c = history-counts graph callers limit moves m in (c.callers, c.limit)
