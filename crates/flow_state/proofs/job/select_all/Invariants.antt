use Rattle.std.proofs.Common.{◌≡◌, take, map}
use Rattle.script_tree.specs.declared.value.Value.TheVariants.{Fault as Faulty}
use Rattle.script_tree.specs.declared.value.Fault.TheVariants.{Kind}
use Rattle.signal_graph.specs.Values.{select}
use Rattle.flow_model.specs.Machine.Words.{run_over}
use Rattle.flow_state.specs.Jobs.{read_from, found_as}
use Rattle.flow_state.proofs.job.select_all.Given as goal

abbrev pub invariant-loop-selector : goal.invariant-loop-selector
invariant-loop-selector l = l.found ≡ map (λ s. found_as (select (run_over s.script s.inputs (read_from l.gathered) (Faulty Kind)) s.candidates)) (take l.selector-index l.selectors)
