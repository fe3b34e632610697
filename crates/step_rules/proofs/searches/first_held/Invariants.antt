use Rattle.std.proofs.Common.{◌≡◌, drop, find}
use Rattle.step_rules.specs.Points.{is_held_in}
use Rattle.step_rules.proofs.Nodes.{Stays}
use Rattle.step_rules.proofs.searches.first_held.Given as goal

abbrev pub invariant-loop-candidate : goal.invariant-loop-candidate
invariant-loop-candidate g l =
    Stays g.L.Lists.listing_of g.L.Lists.nodes l.fn.lists l.lists
    × (find (is_held_in (g.L.Lists.listing_of l.fn.lists) l.node l.found) (drop l.candidate-index l.picked) ≡ find (is_held_in (g.L.Lists.listing_of l.fn.lists) l.node l.found) l.picked)
