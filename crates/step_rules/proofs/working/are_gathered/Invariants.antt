use Rattle.std.proofs.Common.{◌≡◌, drop}
use Rattle.flow_model.specs.Machine.Steps.{all_gathered}
use Rattle.flow_model.specs.Parts.Books.{bare}
use Rattle.step_rules.proofs.working.are_gathered.Given as goal

abbrev pub invariant-loop-input : goal.invariant-loop-input
invariant-loop-input l = all_gathered (bare l.book.book) l.node (drop l.input-index l.inputs) ≡ all_gathered (bare l.book.book) l.node l.inputs
