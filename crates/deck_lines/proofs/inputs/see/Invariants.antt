use Rattle.std.proofs.Common.{◌≡◌, drop}
use Rattle.deck_lines.specs.Inputs.{seen_after}
use Rattle.deck_lines.proofs.inputs.see.Given as goal

abbrev pub invariant-loop-name : goal.invariant-loop-name
invariant-loop-name l = seen_after l.initial.seen.items l.names ≡ seen_after l.seen.items (drop l.name-index l.names)
