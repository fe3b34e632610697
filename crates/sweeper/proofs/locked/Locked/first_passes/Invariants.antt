use Rattle.std.proofs.Common.{◌≡◌, ◌+◌, ◌<◌, [], ℕ, false, length, replicate}
use Rattle.chronicle.specs.Keys.{is_out}
use Rattle.node_set.specs.Members.{no_members}
use Rattle.sweeper.specs.Ends.{fresh}
use Rattle.sweeper.specs.Tokens.{outs_of}
use Rattle.sweeper.proofs.locked.Locked.first_passes.Given as goal

abbrev pub invariant-loop-luggage : goal.invariant-loop-luggage
invariant-loop-luggage g l =
    (l.self.moves ≡ []) × (l.passes ≡ fresh 1 l.caller) × (l.caller + length l.luggage-iterator.rest.items ≡ l.callers)
    × (outs_of l.luggage-iterator.rest.items ≡ replicate (length l.luggage-iterator.rest.items) (no_members l.nodes))
    × ((x : ℕ) → l.caller < x → is_out x l.self.out ≡ false)
