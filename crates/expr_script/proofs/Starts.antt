-- How the words of a script begin.
use Rattle.std.proofs.Common.{◌≡◌, false, refl, sym, ◌∙◌, arith}
use Rattle.std.specs.Prelude.{ℤ, pos, negsuc, decimal, int_le, FitsSigned}
use Rattle.std.specs.Int.{w64}
use Rattle.std.specs.Fmt.{signed_decimal}
use Rattle.std.proofs.lemmas.Fmt.{decimal_nonempty}
use Rattle.std.proofs.lemmas.Bool.{le-leb}
use Rattle.script_tree.specs.declared.expr.Binary.{Binary}
use Rattle.script_tree.specs.declared.expr.Binary.TheVariants.{OrElse, Or, And, Equal, Unequal, Less, AtMost, Greater, AtLeast, Add, Subtract, Multiply, Divide, Remainder}
use Rattle.expr_script.specs.Cut.{begins_word}
use Rattle.expr_script.specs.Printed.{sign_text}
use Rattle.expr_script.proofs.Lean.{digits_begin}
use Rattle.expr_script.proofs.Numerals.{decimal_digits}

pub sign_begins : (op : Binary) → begins_word (sign_text op) ≡ false
sign_begins OrElse = refl
sign_begins Or = refl
sign_begins And = refl
sign_begins Equal = refl
sign_begins Unequal = refl
sign_begins Less = refl
sign_begins AtMost = refl
sign_begins Greater = refl
sign_begins AtLeast = refl
sign_begins Add = refl
sign_begins Subtract = refl
sign_begins Multiply = refl
sign_begins Divide = refl
sign_begins Remainder = refl

pub number_begins : (z : ℤ) → FitsSigned w64 z → begins_word (signed_decimal z) ≡ int_le (pos 0) z
number_begins (pos n) h = digits_begin (decimal n) (decimal_digits n (omega (arith, h))) (decimal_nonempty n (omega (arith, h))) ∙ sym (le-leb 0 n (omega arith))
number_begins (negsuc n) h = refl

pub ruleset starts = (sign_begins, number_begins)
