use Rattle.std.proofs.Common.{None, sym, subst, ◌≡◌}
use Rattle.std.specs.List.{AllByRecursion}
use Rattle.signal_graph.specs.Graph.{IsGraph}
use Rattle.signal_graph.specs.Machine.{misnamed}
use Rattle.call_log.specs.Made.{count_well_named}
use Rattle.separate_decks.specs.Separate.{Separate}
use Rattle.separate_decks.specs.Workload.{workload_scripts}
use Rattle.separate_decks.proofs.Declaring.{is_graph}
use Rattle.separate_decks.proofs.Accepting.{graph_is_made, are_accepted}
use Rattle.separate_decks.proofs.Calling.{is_separate, calls_named, count_calls}
use Rattle.separate_decks.proofs.laws.workload_is_separate.Goals as goal

pub returns-clause-declared : goal.returns-clause-declared
returns-clause-declared c = are_accepted

pub returns-clause-graph : goal.returns-clause-graph
returns-clause-graph c number = subst IsGraph (sym (graph_is_made number)) (is_graph number)

pub returns-clause-separate : goal.returns-clause-separate
returns-clause-separate c number = subst (λ graph. Separate graph (workload_scripts number)) (sym (graph_is_made number)) (is_separate number)

pub returns-clause-named : goal.returns-clause-named
returns-clause-named c number = subst (λ graph. AllByRecursion (λ calls. AllByRecursion (λ call. misnamed graph call ≡ None) calls) (workload_scripts number)) (sym (graph_is_made number)) (calls_named number)

pub returns-clause-count : goal.returns-clause-count
returns-clause-count c number = subst (λ graph. count_well_named graph (workload_scripts number) ≡ 4000) (sym (graph_is_made number)) (count_calls number)
