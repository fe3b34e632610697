use Rattle.std.proofs.Common.{◌≡◌, drop}
use Rattle.script_tree.specs.declared.value.Value.TheVariants.{Fault as Faulty}
use Rattle.script_tree.specs.declared.value.Fault.TheVariants.{NoChoice}
use Rattle.flow_model.specs.Machine.Words.{set_value}
use Rattle.flow_state.proofs.seat.last_set.Given as goal

abbrev pub invariant-loop-source : goal.invariant-loop-source
invariant-loop-source l = set_value l.node l.last (drop l.source-index l.sets) ≡ set_value l.node (Faulty NoChoice) l.sets
