use Rattle.std.proofs.Common.{◌≡◌, drop, find, not}
use Rattle.flow_model.specs.Machine.Words.{is_gathered}
use Rattle.flow_model.specs.Parts.Books.{bare}
use Rattle.step_rules.proofs.searches.first_ungathered.Given as goal

abbrev pub invariant-loop-input : goal.invariant-loop-input
invariant-loop-input l =
    find (λ m. not (is_gathered (bare l.book.book) l.node m)) (drop l.input-index l.inputs) ≡ find (λ m. not (is_gathered (bare l.book.book) l.node m)) l.inputs
