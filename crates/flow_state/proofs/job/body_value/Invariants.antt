use Rattle.std.proofs.Common.{◌≡◌, take, map}
use Rattle.flow_model.specs.Machine.Words.{pick_over}
use Rattle.flow_state.specs.Found.{selection_of}
use Rattle.flow_state.specs.Jobs.{read_from}
use Rattle.flow_state.proofs.job.body_value.Given as goal

abbrev pub invariant-loop-index : goal.invariant-loop-index
invariant-loop-index l = l.row ≡ map (λ f. pick_over (read_from l.gathered) (selection_of f)) (take l.index l.found)
