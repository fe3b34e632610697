-- What a report asks of a run: every reply of a legal log answers its call, and there is a final value for each node.
use Rattle.std.proofs.Common.{◌≡◌, ◌+◌, List, [], ◌∷◌, ◌++◌, length, sym, subst, arith, length-append}
use Rattle.std.proofs.lemmas.List.{length-map}
use Rattle.signal_graph.specs.declared.call.Call.{Call}
use Rattle.signal_graph.specs.declared.call.Call.TheVariants.{Fire, Read}
use Rattle.signal_graph.specs.declared.log.Logged.{Logged}
use Rattle.signal_graph.specs.Graph.{Graph, number_of}
use Rattle.signal_graph.specs.declared.node.Node.{Node}
use Rattle.signal_graph.specs.Values.{Values, val, at, node_value, values_from}
use Rattle.signal_graph.specs.Machine.{after, reply}
use Rattle.signal_graph.specs.Legal.{LegalFrom, state_after, finals}
use Rattle.report_text.specs.Report.{Answers, AreAnswered}

reply_answers : (graph : Graph) (kept : Values) (call : Call) → Answers call (reply graph kept call)
reply_answers graph kept (Fire sets looks) = length-map looks
    (λ name. val graph (after graph kept (Fire sets looks)) (number_of graph name))
reply_answers graph kept (Read looks) = length-map looks (λ name. val graph kept (number_of graph name))

pub legal_answered : (graph : Graph) (kept : Values) (log : List Logged) → LegalFrom graph kept log → AreAnswered log
legal_answered graph kept [] h = tt
legal_answered graph kept (entry ∷ log) h =
    (subst (Answers entry.call) (sym h.0) (reply_answers graph kept entry.call), legal_answered graph (after graph kept entry.call) log h.1)

length_from : (nodes : List Node) (earlier kept : Values) → length (values_from earlier nodes kept) ≡ length earlier + length nodes
length_from [] earlier kept = omega arith
length_from (node ∷ nodes) earlier kept =
    let v = node_value node (at kept (length earlier)) earlier in
    omega (arith, length_from nodes (earlier ++ v ∷ []) kept, length-append earlier (v ∷ []))

-- there are as many final values as nodes
pub length-finals : (graph : Graph) (log : List Logged) → length (finals graph log) ≡ length graph.nodes
length-finals graph log = omega (arith, length_from graph.nodes [] (state_after graph log))

pub ruleset report_laws = (legal_answered, length-finals)
