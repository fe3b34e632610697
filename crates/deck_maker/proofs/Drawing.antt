-- Draws one after the other.
use Rattle.std.proofs.Common.{◌≡◌, ℕ, zero, suc, ◌+◌, ◌*◌, ◌^◌, ap, ◌∙◌, arith}
use Rattle.std.specs.Prelude.{◌/◌, ◌%◌}
use Rattle.std.proofs.Math.Nat.{mod-add-mod}
use Rattle.separate_decks.specs.Draws.{next_state, skip, draw}

-- a step of a state of 64 bits: its product and its sum are cut one after the other
pub stepped : (x : ℕ) → (x * 6364136223846793005 % 2 ^ 64 + 1442695040888963407) % 2 ^ 64 ≡ skip 1 x
unfolding skip next_state
stepped x = mod-add-mod (x * 6364136223846793005) (2 ^ 64) 1442695040888963407

pub taken : (x k : ℕ) → (x * 6364136223846793005 % 2 ^ 64 + 1442695040888963407) % 2 ^ 64 / 2 ^ 33 % k ≡ draw x 1 k
unfolding draw
taken x k = ap (λ n. n / 2 ^ 33 % k) (stepped x)

-- draws behind draws
pub skipped : (x i j : ℕ) → skip j (skip i x) ≡ skip (i + j) x
unfolding skip
skipped x zero j = let e : j ≡ 0 + j = omega arith in ap (λ k. skip k x) e
skipped x (suc i) j = let e : suc (i + j) ≡ suc i + j = omega arith in skipped (next_state x) i j ∙ ap (λ k. skip k x) e

pub later_draw : (x i j k : ℕ) → draw (skip i x) j k ≡ draw x (i + j) k
unfolding draw
later_draw x i j k = ap (λ n. n / 2 ^ 33 % k) (skipped x i j)

pub ruleset later = (skipped, later_draw)
