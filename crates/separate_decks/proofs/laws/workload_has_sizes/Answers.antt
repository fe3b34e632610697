use Rattle.std.proofs.Common.{◌≡◌, length, sym, subst}
use Rattle.separate_decks.proofs.Declaring.{length-nodes}
use Rattle.separate_decks.proofs.Accepting.{graph_is_made}
use Rattle.separate_decks.proofs.Calling.{length-scripts, scripts_long, scripts_small}
use Rattle.separate_decks.proofs.laws.workload_has_sizes.Goals as goal

pub returns-clause-nodes : goal.returns-clause-nodes
returns-clause-nodes c number = subst (λ graph. length graph.nodes ≡ 216) (sym (graph_is_made number)) (length-nodes number)

pub returns-clause-threads : goal.returns-clause-threads
returns-clause-threads c = length-scripts

pub returns-clause-calls : goal.returns-clause-calls
returns-clause-calls c = scripts_long

pub returns-clause-names : goal.returns-clause-names
returns-clause-names c = scripts_small
