use Rattle.std.proofs.Common.{ℕ, sym, ◌∙◌, arith}
use Rattle.std.proofs.lemmas.Simd.{map-map}
use Rattle.std.specs.Prelude.{Result}
use Rattle.script_tree.specs.declared.value.Fault.{Fault}
use Rattle.script_tree.specs.declared.value.Value.TheVariants.{Fault as Faulty}
use Rattle.script_tree.specs.declared.value.Fault.TheVariants.{Kind}
use Rattle.signal_graph.specs.declared.node.Selector.{Selector}
use Rattle.signal_graph.specs.Values.{select}
use Rattle.flow_model.specs.Machine.Words.{run_over}
use Rattle.flow_state.specs.Jobs.{read_from, found_as}
use Rattle.flow_state.proofs.JobLemmas.{all_mapped}
use Rattle.flow_state.proofs.job.select_all.Goals as goal

pub returns : goal.returns
returns c =
    let g : Selector → Result ℕ Fault = λ s. select (run_over s.script s.inputs (read_from c.args.gathered.now) (Faulty Kind)) s.candidates in
    all_mapped (λ (s : Selector). found_as (g s)) c.args.selectors.now c.loop-selector.selector-index c.loop-selector.found (omega arith) c.loop-selector.invariant ∙ sym (map-map found_as g c.args.selectors.now)
