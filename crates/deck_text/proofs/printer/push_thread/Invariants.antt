use Rattle.std.proofs.Common.{◌≡◌, drop}
use Rattle.deck_text.specs.Appended.{with_calls}
use Rattle.deck_text.proofs.printer.push_thread.Given as goal

abbrev pub invariant-loop-call : goal.invariant-loop-call
invariant-loop-call l = with_calls l.initial.text l.call-items ≡ with_calls l.text (drop l.call-index l.call-items)
