-- The number that few digits spell.
use Rattle.std.proofs.Common.{◌≡◌, ℕ, ◌+◌, ◌-◌, ◌*◌, ◌^◌, ◌<◌, ◌≤◌, true, List, [], ◌∷◌, length, take, get_or, sym, subst, arith}
use Rattle.std.specs.List.{list_all}
use Rattle.std.specs.Char.{is_ascii_digit}
use Rattle.std.proofs.Math.Nat.{mul-le-mul_right, mul_assoc, pow-succ', pow-le-pow_right}
use Rattle.script_tree.proofs.Truths.{and_left, and_right}
use Rattle.expr_script.specs.Words.{value}
use Rattle.expr_script.proofs.Numbers.{value_take_more, value_take}

digit_small : (d : ℕ) → is_ascii_digit d ≡ true → d - 48 ≤ 9
digit_small d h = grind (arith, h)

-- a number has no more digits than its power of ten
value_small : (n : ℕ) (ds : List ℕ) → list_all is_ascii_digit ds ≡ true → value n ds < (n + 1) * 10 ^ length ds
value_small n [] h = omega arith
value_small n (d ∷ ds) h =
    let r = value_small (n * 10 + (d - 48)) ds (and_right _ _ h) in
    let s = digit_small d (and_left _ _ h) in
    subst (λ p. value n (d ∷ ds) < (n + 1) * p) (sym (pow-succ' 10 (length ds))) (raised (10 ^ length ds) n (d - 48) (value n (d ∷ ds)) s r)
  where
    raised : (p n d v : ℕ) → d ≤ 9 → v < (n * 10 + d + 1) * p → v < (n + 1) * (10 * p)
    raised p n d v s r =
        let m = mul-le-mul_right {m = n * 10 + d + 1} {n = (n + 1) * 10} p (omega (arith, s)) in
        let e : (n + 1) * 10 * p ≡ (n + 1) * (10 * p) = mul_assoc (n + 1) 10 p in
        omega (arith, r, m, e)

-- nine digits make less than a billion
few_digits : (ds : List ℕ) → length ds ≤ 9 → list_all is_ascii_digit ds ≡ true → value 0 ds < 10 ^ 9
few_digits ds few h = let r = value_small 0 ds h in let p = powers (length ds) few in omega (arith, r, p)
  where
    powers : (n : ℕ) → n ≤ 9 → 10 ^ n ≤ 10 ^ 9
    powers n few = pow-le-pow_right {n = 10} (omega arith) {i = n} {j = 9} few

-- so does each of its beginnings
pub few_so_far : (ds : List ℕ) (i : ℕ) → length ds ≤ 9 → list_all is_ascii_digit ds ≡ true → i < length ds → value 0 (take i ds) * 10 + (get_or ds i 0 - 48) < 10 ^ 9
few_so_far ds i few h l = omega (arith, value_take ds (i + 1), value_take_more ds i l, few_digits ds few h)
