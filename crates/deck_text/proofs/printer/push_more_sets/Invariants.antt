use Rattle.std.proofs.Common.{◌≡◌, drop}
use Rattle.deck_text.specs.Appended.{with_more_sets}
use Rattle.deck_text.proofs.printer.push_more_sets.Given as goal

abbrev pub invariant-loop-set : goal.invariant-loop-set
invariant-loop-set l = with_more_sets l.initial.text l.sets ≡ with_more_sets l.text (drop l.set-index l.sets)
