-- What == says of numbers, beside what std has.
use Rattle.std.proofs.Common.{◌≡◌, ℕ, ◌<◌, true, false, ◌==◌, arith}
use Rattle.std.proofs.lemmas.Bool.Decides.{nat_tests}

pub equal_to_itself : (n : ℕ) → (n == n) ≡ true
equal_to_itself n = grind (arith, nat_tests)

pub below_differs : (m n : ℕ) → m < n → (m == n) ≡ false
below_differs m n h = grind (arith, nat_tests)

pub differs_back : (m n : ℕ) → (m == n) ≡ false → (n == m) ≡ false
differs_back m n h = grind (arith, nat_tests)
