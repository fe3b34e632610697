use Rattle.std.proofs.Common.{subst, Option}
use Rattle.std.specs.Prelude.{ℕ, ◌∷◌, []}
use Rattle.signal_graph.specs.Values.{nodes_in}
use Rattle.step_rules.specs.Rests.{AreBelow}
use Rattle.step_rules.proofs.Going.{pick_below}
use Rattle.step_rules.proofs.finishing.is_discovered.Goals as goal

pub has_out-requires : goal.has_out-requires
has_out-requires g c = pick_below (g.L.Lists.nodes c.args.lists.now) c.in-Some.candidate (subst (λ (o : Option ℕ). AreBelow (g.L.Lists.nodes c.args.lists.now) (nodes_in (o ∷ []))) c.in-Some.is c.requires)
