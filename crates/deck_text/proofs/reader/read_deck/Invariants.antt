use Rattle.std.proofs.Common.{◌≡◌, ◌+◌, ◌≤◌, length}
use Rattle.script_tree.specs.declared.limits.TheConstants.{DECK_BYTES}
use Rattle.deck_text.specs.Lines.{lines}
use Rattle.deck_text.specs.Readers.{Reads, deck_of}
use Rattle.deck_text.proofs.Spelling.{Led}
use Rattle.deck_text.proofs.reader.read_deck.Given as goal

abbrev pub invariant-loop-rest : goal.invariant-loop-rest
invariant-loop-rest l =
    Reads l.reader
    × Led l.bytes l.rest l.number (deck_of l.reader)
    × (length l.reader.calls.items ≤ l.number)
    × (l.number + length l.rest ≤ length l.bytes)
    × (l.number + length (lines l.rest) ≡ length (lines l.bytes))
    × (length l.bytes ≤ DECK_BYTES + length l.rest)

abbrev pub decreases-loop-rest : goal.decreases-loop-rest
decreases-loop-rest l = length l.rest
