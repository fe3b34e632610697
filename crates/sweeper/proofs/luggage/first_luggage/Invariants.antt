use Rattle.std.proofs.Common.{◌≡◌, ◌≤◌, replicate, vec_capacity}
use Rattle.node_set.specs.Members.{no_members}
use Rattle.sweeper.specs.Tokens.{outs_of}
use Rattle.sweeper.proofs.luggage.first_luggage.Given as goal

abbrev pub invariant-loop : goal.invariant-loop
invariant-loop l = (outs_of l.all.items ≡ replicate l.counter (no_members l.nodes)) × (l.count ≤ vec_capacity l.all)
