-- A legal log with one more entry.
use Rattle.std.proofs.Common.{◌≡◌, List, [], ◌∷◌, ◌++◌, refl}
use Rattle.signal_graph.specs.declared.log.Logged.{Logged}
use Rattle.signal_graph.specs.Graph.{Graph}
use Rattle.signal_graph.specs.Values.{Values}
use Rattle.signal_graph.specs.Machine.{after, reply}
use Rattle.signal_graph.specs.Legal.{LegalFrom, state_from}

pub state_more : (graph : Graph) (kept : Values) (log : List Logged) (entry : Logged) → state_from graph kept (log ++ entry ∷ []) ≡ after graph (state_from graph kept log) entry.call
state_more graph kept [] entry = refl
state_more graph kept (first ∷ log) entry = state_more graph (after graph kept first.call) log entry

pub legal_more : (graph : Graph) (kept : Values) (log : List Logged) (entry : Logged) → LegalFrom graph kept log → entry.reply ≡ reply graph (state_from graph kept log) entry.call → LegalFrom graph kept (log ++ entry ∷ [])
legal_more graph kept [] entry h e = (e, tt)
legal_more graph kept (first ∷ log) entry h e = (h.0, legal_more graph (after graph kept first.call) log entry h.1 e)
