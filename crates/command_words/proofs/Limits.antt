-- Digits and limits of versions.
use Rattle.std.proofs.Common.{◌≡◌, ℕ, ◌≤◌, ◌<◌, true, false, List, [], ◌∷◌, length, refl, sym, ap, subst, ◌∙◌, arith}
use Rattle.std.specs.Prelude.{nat_lt, nat_le, ◌^◌, ◌==◌, ◌&&◌}
use Rattle.std.specs.List.{list_all}
use Rattle.std.specs.Char.{is_ascii_digit, digit_value}
use Rattle.std.specs.Str.Parse.{AllDigits, IsNumeral, digits_value, without_leading_plus}
use Rattle.std.proofs.lemmas.Bool.{and_parts}
use Rattle.std.proofs.lemmas.Bool.Decides.{nat_tests}
use Rattle.script_tree.specs.declared.limits.TheConstants.{VERSIONS}
use Rattle.command_words.specs.Words.{IsLimit}
use Rattle.command_words.specs.Tests.{is_limit}

digit_below : (c : ℕ) → is_ascii_digit c ≡ true → digit_value c < 10
digit_below c h = grind (arith, nat_tests, h)

not_plus : (c : ℕ) → is_ascii_digit c ≡ true → (c == 43) ≡ false
not_plus c h = grind (arith, nat_tests, h)

pub all_digits : (ds : List ℕ) → list_all is_ascii_digit ds ≡ true → AllDigits 10 ds
all_digits [] h = tt
all_digits (d ∷ ds) h = let p = and_parts (is_ascii_digit d) (list_all is_ascii_digit ds) h in (digit_below d p.0, all_digits ds p.1)

digit_from : (c : ℕ) → digit_value c < 10 → is_ascii_digit c ≡ true
digit_from c h = grind (arith, nat_tests, h)

pub digits_all : (ds : List ℕ) → AllDigits 10 ds → list_all is_ascii_digit ds ≡ true
digits_all [] h = refl
digits_all (d ∷ ds) h = rw (digit_from d h.0, digits_all ds h.1) refl

pub no_plus : (ds : List ℕ) → list_all is_ascii_digit ds ≡ true → without_leading_plus ds ≡ ds
no_plus [] h = refl
no_plus (d ∷ ds) h = rw (not_plus d (and_parts (is_ascii_digit d) (list_all is_ascii_digit ds) h).0) refl

pub within_parsed : (ds : List ℕ) (n : ℕ) → list_all is_ascii_digit ds ≡ true → digits_value 10 (without_leading_plus ds) ≡ n
    → nat_le n 4000000 ≡ nat_le (digits_value 10 ds) 4000000
within_parsed ds n h e = ap (λ k. nat_le k 4000000) (sym e ∙ ap (digits_value 10) (no_plus ds h))

pub beyond_parsed : (ds : List ℕ) → list_all is_ascii_digit ds ≡ true → 0 < length ds
    → ((IsNumeral 10 (without_leading_plus ds) × (digits_value 10 (without_leading_plus ds) < 2 ^ 32)) → ⊥)
    → false ≡ nat_le (digits_value 10 ds) 4000000
beyond_parsed ds h some p = sym (grind (arith, nat_tests, above))
  where
    small_fits : digits_value 10 ds ≤ 4000000 → ⊥
    small_fits small = p (
      subst (IsNumeral 10) (sym (no_plus ds h)) (some, all_digits ds h),
      subst (λ xs. digits_value 10 xs < 2 ^ 32)
          (sym (no_plus ds h)) (omega (arith, small)),
    )

    above : 4000000 < digits_value 10 ds
    above = omega (arith, small_fits)

pub ruleset limit_laws = (within_parsed, beyond_parsed)

-- the test of a limit holds exactly of limits

pub limit_spelled : (text : List ℕ) → is_limit text ≡ true → IsLimit text
limit_spelled text h =
    let p = and_parts (nat_lt 0 (length text) && nat_le (length text) 7)
    (list_all is_ascii_digit text && nat_le (digits_value 10 text) VERSIONS) h in
    let lengths = and_parts (nat_lt 0 (length text)) (nat_le (length text) 7) p.0 in
    let rest = and_parts (list_all is_ascii_digit text) (nat_le (digits_value 10 text) VERSIONS) p.1 in
    record {
      digits = (grind (arith, nat_tests, lengths.0), all_digits text rest.0);
      few = grind (arith, nat_tests, lengths.1);
      within = grind (arith, nat_tests, rest.1);
    }

pub limit_tested : (text : List ℕ) → IsLimit text → is_limit text ≡ true
limit_tested text s =
    let some : nat_lt 0 (length text) ≡ true = grind (arith, nat_tests, s.digits.0) in
    let few : nat_le (length text) 7 ≡ true = grind (arith, nat_tests, s.few) in
    let digits : list_all is_ascii_digit text ≡ true = digits_all text s.digits.1 in
    let within : nat_le (digits_value 10 text) VERSIONS ≡ true = grind (arith, nat_tests, s.within) in
    rw (some, few, digits, within) refl

-- a limit begins with a digit
pub first_digit : (d : ℕ) (ds : List ℕ) → IsLimit (d ∷ ds) → (48 ≤ d) × (d ≤ 57)
first_digit d ds limit = let digit = digit_from d limit.digits.1.0 in (grind (arith, nat_tests, digit), grind (arith, nat_tests, digit))

pub no_digit : IsLimit [] → ⊥
no_digit limit = absurd (omega (arith, limit.digits.0))

-- the number of a limit

pub limit_parsed : (text : List ℕ) (n : ℕ) → IsLimit text → digits_value 10 (without_leading_plus text) ≡ n → n ≡ digits_value 10 text
limit_parsed text n limit e = sym e ∙ ap (digits_value 10) (no_plus text (digits_all text limit.digits.1))

pub limit_parses : (text : List ℕ) → IsLimit text
    → ((IsNumeral 10 (without_leading_plus text) × (digits_value 10 (without_leading_plus text) < 2 ^ 32)) → ⊥) → ⊥
limit_parses text limit none =
    let plain = no_plus text (digits_all text limit.digits.1) in
    none (
      subst (IsNumeral 10) (sym plain) limit.digits,
      subst (λ xs. digits_value 10 xs < 2 ^ 32) (sym plain)
          (omega (arith, limit.within)),
    )

pub ruleset number_laws = (limit_parsed, limit_parses)
