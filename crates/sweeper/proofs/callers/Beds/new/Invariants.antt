use Rattle.std.proofs.Common.{◌≡◌, ◌≤◌, vec_len, vec_capacity}
use Rattle.sweeper.proofs.callers.Beds.new.Given as goal

abbrev pub invariant-loop : goal.invariant-loop
invariant-loop l = (vec_len l.beds ≡ l.counter) × (l.callers ≤ vec_capacity l.beds)
