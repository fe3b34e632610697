-- The value of digits.
use Rattle.std.proofs.Common.{◌≡◌, ℕ, ◌+◌, ◌-◌, ◌*◌, ◌<◌, ◌≤◌, List, [], length, take, get_or, arith}
use Rattle.std.proofs.lemmas.Grind.{common_steps}
use Rattle.expr_script.specs.Words.{value}
use Rattle.expr_script.proofs.Numbers.{value_take_more, value_take}

pub value_all : (ds : List ℕ) (i : ℕ) → length ds ≤ i → value 0 (take i ds) ≡ value 0 ds
value_all ds i h = grind (arith, common_steps)

-- where the digits up to a place make too great a number, all do
pub too_great : (ds : List ℕ) (i total most : ℕ) → i < length ds → total ≡ value 0 (take i ds) → most < total * 10 + (get_or ds i 0 - 48) → most < value 0 ds
too_great ds i total most h e over = omega (arith, value_take ds (i + 1), value_take_more ds i h)

pub ruleset value_laws = (value_take_more, value_take, value_all, too_great)
