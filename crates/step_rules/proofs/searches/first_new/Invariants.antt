use Rattle.std.proofs.Common.{◌≡◌, drop, find}
use Rattle.step_rules.specs.Points.{is_new_in}
use Rattle.step_rules.proofs.Nodes.{Stays}
use Rattle.step_rules.proofs.searches.first_new.Given as goal

abbrev pub invariant-loop-candidate : goal.invariant-loop-candidate
invariant-loop-candidate g l =
    Stays g.L.Lists.listing_of g.L.Lists.nodes l.fn.lists l.lists
    × (find (is_new_in (g.L.Lists.listing_of l.fn.lists) l.version l.node l.picked) (drop l.candidate-index l.found) ≡ find (is_new_in (g.L.Lists.listing_of l.fn.lists) l.version l.node l.picked) l.found)
