use Rattle.std.proofs.Common.{◌≡◌, drop}
use Rattle.deck_text.specs.Appended.{with_more_names}
use Rattle.std.specs.Prelude.{map}
use Rattle.signal_graph.specs.Graph.{name_at}
use Rattle.deck_text.proofs.printer.push_more_candidates.Given as goal

abbrev pub invariant-loop-candidate : goal.invariant-loop-candidate
invariant-loop-candidate l = with_more_names l.initial.text (map (name_at l.graph) l.candidates) ≡ with_more_names l.text (map (name_at l.graph) (drop l.candidate-index l.candidates))
