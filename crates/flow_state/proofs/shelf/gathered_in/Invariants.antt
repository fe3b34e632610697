use Rattle.std.proofs.Common.{◌≡◌, drop}
use Rattle.flow_model.specs.Machine.Words.{gathered_of}
use Rattle.flow_state.proofs.shelf.gathered_in.Given as goal

abbrev pub invariant-loop-node : goal.invariant-loop-node
invariant-loop-node l = gathered_of l.input (drop l.node-index l.gathered) ≡ gathered_of l.input l.gathered
