-- The value that words spell: `true`, `false`, or a number of 64 bits with or without one minus before it.
use Rattle.std.specs.Prelude.{ℕ, ◌^◌, pos, neg_ℤ, true, false, ◌&&◌, nat_lt, nat_le}
use Rattle.std.specs.Prelude.{if◌then◌else◌, List, [], ◌∷◌, codes, Option, Some, None}
use Rattle.std.specs.Str.{bytes_eq}
use Rattle.script_tree.specs.declared.value.Value.{Value}
use Rattle.script_tree.specs.declared.value.Value.TheVariants.{Int, Bool as Truth}
use Rattle.expr_script.specs.Words.{value}
pub use Rattle.expr_script.specs.Words.{is_digits}

-- a number without a minus is at most 9223372036854775807
abbrev pub plain : List ℕ → Option Value
plain word = if is_digits word && nat_lt (value 0 word) (2 ^ 63) then Some (Int (pos (value 0 word))) else None

-- and one behind a minus is at most 9223372036854775808
abbrev pub below_zero : List ℕ → Option Value
below_zero word = if is_digits word && nat_le (value 0 word) (2 ^ 63) then Some (Int (neg_ℤ (pos (value 0 word)))) else None

abbrev pub one_word : List ℕ → Option Value
one_word word =
    if bytes_eq word (codes "true") then Some (Truth true)
    else if bytes_eq word (codes "false") then Some (Truth false)
    else plain word

abbrev pub value_of : List (List ℕ) → Option Value
value_of [] = None
value_of (word ∷ []) = one_word word
value_of (sign ∷ word ∷ []) = if bytes_eq sign (codes "-") then below_zero word else None
value_of (a ∷ b ∷ c ∷ more) = None
