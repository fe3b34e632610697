use Rattle.std.proofs.Common.{◌≡◌, drop}
use Rattle.deck_text.specs.Appended.{with_threads}
use Rattle.deck_text.proofs.printer.push_threads.Given as goal

abbrev pub invariant-loop-calls : goal.invariant-loop-calls
invariant-loop-calls l = with_threads l.initial.text l.threads ≡ with_threads l.text (drop l.calls-index l.threads)
