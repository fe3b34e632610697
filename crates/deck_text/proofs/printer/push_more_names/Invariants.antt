use Rattle.std.proofs.Common.{◌≡◌, drop}
use Rattle.deck_text.specs.Appended.{with_more_names}
use Rattle.deck_text.proofs.printer.push_more_names.Given as goal

abbrev pub invariant-loop-name : goal.invariant-loop-name
invariant-loop-name l = with_more_names l.initial.text l.names ≡ with_more_names l.text (drop l.name-index l.names)
