use Rattle.std.proofs.Common.{◌≡◌, drop}
use Rattle.deck_text.specs.Appended.{with_more_selectors}
use Rattle.deck_text.proofs.printer.push_more_selectors.Given as goal

abbrev pub invariant-loop-selector : goal.invariant-loop-selector
invariant-loop-selector l = with_more_selectors l.graph l.initial.text l.selectors ≡ with_more_selectors l.graph l.text (drop l.selector-index l.selectors)
