-- The numbers that operands write.
use Rattle.std.proofs.Common.{◌≡◌, ℕ, ◌≤◌, ◌<◌, true, false, List, length, sym, ap, subst, ◌∙◌, arith, true≢false}
use Rattle.std.specs.Prelude.{◌^◌}
use Rattle.std.specs.List.{list_all}
use Rattle.std.specs.Char.{is_ascii_digit}
use Rattle.std.specs.Str.Parse.{IsNumeral, digits_value, without_leading_plus}
use Rattle.command_words.specs.Words.{IsNumber}
use Rattle.command_words.proofs.Limits.{all_digits, digits_all, no_plus}

pub number_said : (ds : List ℕ) (n : ℕ) → list_all is_ascii_digit ds ≡ true → digits_value 10 (without_leading_plus ds) ≡ n
    → n ≡ digits_value 10 ds
number_said ds n h e = sym e ∙ ap (digits_value 10) (no_plus ds h)

pub number_is : (ds : List ℕ) (n : ℕ) → list_all is_ascii_digit ds ≡ true → 0 < length ds → length ds ≤ 20
    → digits_value 10 (without_leading_plus ds) ≡ n → n < 2 ^ 64 → IsNumber ds
number_is ds n h some few e low = record {
  digits = (some, all_digits ds h);
  few = few;
  within = subst (λ k. k < 2 ^ 64) (number_said ds n h e) low;
}

-- digits that are not read write no number of 64 bits
pub number_beyond : (ds : List ℕ) → list_all is_ascii_digit ds ≡ true
    → ((IsNumeral 10 (without_leading_plus ds) × (digits_value 10 (without_leading_plus ds) < 2 ^ 64)) → ⊥) → IsNumber ds → ⊥
number_beyond ds h none number =
    let plain = no_plus ds h in
    none (
      subst (IsNumeral 10) (sym plain) number.digits,
      subst (λ (xs : List ℕ). digits_value 10 xs < 2 ^ 64) (sym plain) number.within,
    )

-- a number is digits, at least one and at most 20
pub number_digits : (ds : List ℕ) → list_all is_ascii_digit ds ≡ false → IsNumber ds → ⊥
number_digits ds h number = true≢false (sym (digits_all ds number.digits.1) ∙ h)

pub number_some : (ds : List ℕ) → length ds ≡ 0 → IsNumber ds → ⊥
number_some ds h number = absurd (omega (arith, h, number.digits.0))

pub number_few : (ds : List ℕ) → 20 < length ds → IsNumber ds → ⊥
number_few ds h number = absurd (omega (arith, h, number.few))

pub ruleset number_laws = (number_said, number_is, number_beyond, number_digits, number_some, number_few)
