-- The test of the order tells whether one call is before another.
use Rattle.std.proofs.Common.{◌≡◌, ℕ, ◌⊎◌, inl, inr, Bool, true, false, not, ◌&&◌, arith}
use Rattle.std.specs.Prelude.{IsTrue, ◌↔◌}
use Rattle.std.proofs.lemmas.Bool.{or_cases, or_left, or_right}
use Rattle.script_tree.proofs.Truths.{not_and_parts}
use Rattle.order_graph.specs.Order.{reaches}
use Rattle.order_graph.proofs.Reaching.{decides}
use Rattle.flow_model.specs.Machine.State.{Core, live, precedes}
use Rattle.flow_model.specs.Machine.Order.{IsBefore, by_pairs, has_ended}

live_and_ended : (a b : Bool) → a ≡ false → b ≡ true → (not a && b) ≡ true
live_and_ended a b h k = grind arith

tested : (s : Core) (u v : ℕ) → precedes s u v ≡ true → IsBefore s u v
tested s u v h = go (or_cases (reaches s.pairs u v) _ h)
  where
    go : (reaches s.pairs u v ≡ true) ⊎ ((not (live s u) && live s v) ≡ true) → IsBefore s u v
    go (inl r) = by_pairs ((decides s.pairs u v).0 r)
    go (inr e) = let both = not_and_parts (live s u) (live s v) e in has_ended both.0 both.1

read : {s : Core} {u v : ℕ} → IsBefore s u v → precedes s u v ≡ true
read {s} (by_pairs {u = u} {v = v} p) = or_left (reaches s.pairs u v) _ ((decides s.pairs u v).1 p)
read {s} (has_ended {u = u} {v = v} h k) = or_right (reaches s.pairs u v) _ (live_and_ended (live s u) (live s v) h k)

pub precedes-decides : (s : Core) (u v : ℕ) → IsTrue (precedes s u v) ↔ IsBefore s u v
precedes-decides s u v = ((λ h. tested s u v h), (λ h. read h))
