use Rattle.std.proofs.Common.{◌≡◌, drop}
use Rattle.signal_graph.specs.Values.{nodes_in}
use Rattle.flow_model.specs.Machine.Steps.{all_gathered}
use Rattle.flow_model.specs.Parts.Books.{bare}
use Rattle.step_rules.proofs.working.are_picks_gathered.Given as goal

abbrev pub invariant-loop-index : goal.invariant-loop-index
invariant-loop-index l = all_gathered (bare l.book.book) l.node (nodes_in (drop l.index l.picks)) ≡ all_gathered (bare l.book.book) l.node (nodes_in l.picks)
