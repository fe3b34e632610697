-- Numbers as they are written.
use Rattle.std.proofs.Common.{◌≡◌, ℕ, ◌+◌, ◌-◌, ◌*◌, ◌^◌, ◌<◌, ◌≤◌, true, List, [], ◌∷◌, length, refl, ap, inl, inr, arith}
use Rattle.std.specs.Prelude.{◌⊎◌, decimal, leb}
use Rattle.std.specs.List.{list_all}
use Rattle.std.specs.Char.{is_ascii_digit}
use Rattle.std.proofs.lemmas.Bool.{cases_lt, leb-true, le-leb}
use Rattle.std.proofs.lemmas.Str.Parse.{IsNumeralModel, numerals_by_fold}
use Rattle.std.proofs.lemmas.Fmt.{digits_decimal, digits_value-decimal, decimal-digits_value}
use Rattle.std.specs.Cmp.Derive.{both_true}
use Rattle.script_tree.proofs.Truths.{and_left, and_right}
use Rattle.expr_script.specs.Words.{value}

AreDigits : List ℕ → Type 0
AreDigits ds = list_all is_ascii_digit ds ≡ true

own : IsNumeralModel AreDigits (value 0)
unfolding AreDigits
own = numerals_by_fold AreDigits
    (record {
      empty = refl;
      parts = λ c cs e. (let d = and_left (is_ascii_digit c) (list_all is_ascii_digit cs) e in
          ((leb-true 48 c (and_left (leb 48 c) (leb c 57) d), leb-true c 57 (and_right (leb 48 c) (leb c 57) d)), and_right (is_ascii_digit c) (list_all is_ascii_digit cs) e));
      more = λ c cs k e. both_true (both_true (le-leb 48 c k.0) (le-leb c 57 k.1)) e;
    })
    value
    (record { empty = λ n. refl; more = λ n c cs k. refl })

pub decimal_digits : (n : ℕ) → n < 2 ^ 64 → list_all is_ascii_digit (decimal n) ≡ true
unfolding AreDigits
decimal_digits n h = digits_decimal own n h

pub decimal_value : (n : ℕ) → n < 2 ^ 64 → value 0 (decimal n) ≡ n
decimal_value n h = digits_value-decimal own n h

-- the number of digits is written in no more digits
pub decimal_short : (ds : List ℕ) → list_all is_ascii_digit ds ≡ true → 0 < length ds → value 0 ds < 2 ^ 64 → length (decimal (value 0 ds)) ≤ length ds
unfolding AreDigits
decimal_short [] d some small = absurd (omega (arith, some))
decimal_short (c ∷ []) d some small = omega (arith, ap length (decimal-digits_value own (c ∷ []) d some (λ e. refl) small))
decimal_short (c ∷ e ∷ ds) d some small = by_first (cases_lt 48 c) (leb-true 48 c (and_left (leb 48 c) (leb c 57) (and_left (is_ascii_digit c) (list_all is_ascii_digit (e ∷ ds)) d))) (λ z. decimal_short (e ∷ ds) (and_right (is_ascii_digit c) (list_all is_ascii_digit (e ∷ ds)) d) (omega arith) (omega (arith, small, zero_first z)))
  where
    zero_first : c ≡ 48 → value 0 (c ∷ e ∷ ds) ≡ value 0 (e ∷ ds)
    zero_first z = ap (λ n. value n (e ∷ ds)) {x = 0 * 10 + (c - 48)} {y = 0} (omega (arith, z))

    by_first : (48 < c) ⊎ (c ≤ 48) → 48 ≤ c → (c ≡ 48 → length (decimal (value 0 (e ∷ ds))) ≤ length (e ∷ ds)) → length (decimal (value 0 (c ∷ e ∷ ds))) ≤ length (c ∷ e ∷ ds)
    by_first (inl more) h f = omega (arith, ap length (decimal-digits_value own (c ∷ e ∷ ds) d some (λ z. absurd (omega (arith, more, z))) small))
    by_first (inr most) h f = let z : c ≡ 48 = omega (arith, most, h) in omega (arith, f z, ap (λ n. length (decimal n)) (zero_first z))
