use Rattle.std.proofs.Common.{◌≡◌, [], drop}
use Rattle.signal_graph.specs.Declarations.{script_names}
use Rattle.deck_lines.specs.Inputs.{seen_after}
use Rattle.deck_lines.proofs.inputs.different_inputs.Given as goal

abbrev pub invariant-loop-selector : goal.invariant-loop-selector
invariant-loop-selector l = seen_after [] (script_names l.selectors) ≡ seen_after l.seen.items (script_names (drop l.selector-index l.selectors))
