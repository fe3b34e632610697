-- What a script means.
use Rattle.std.specs.Prelude.{ℕ, zero, ◌^◌, ℤ, pos, negsuc, ◌+ℤ◌, ◌-ℤ◌, ◌*ℤ◌, neg_ℤ, Bool, true, false, List}
use Rattle.std.specs.Prelude.{[], nat_lt, if◌then◌else◌, slice_get, unwrap_or, int_div, int_rem, not}
use Rattle.std.specs.Ordering.{int_eq}
use Rattle.std.specs.Int.RustNames.{int_lt, int_le}
use Rattle.script_tree.specs.declared.value.Fault.TheVariants.{Overflow, ZeroDivisor, Kind}
use Rattle.script_tree.specs.declared.value.Value.{Value}
use Rattle.script_tree.specs.declared.value.Value.TheVariants.{Int, Bool as Truth, Fault as Faulty}
use Rattle.script_tree.specs.declared.expr.Unary.{Unary}
use Rattle.script_tree.specs.declared.expr.Unary.TheVariants.{Negate, Not}
use Rattle.script_tree.specs.declared.expr.Binary.{Binary}
use Rattle.script_tree.specs.declared.expr.Binary.TheVariants.{OrElse, Or, And, Equal, Unequal, Less, AtMost, Greater}
use Rattle.script_tree.specs.declared.expr.Binary.TheVariants.{AtLeast, Add, Subtract, Multiply, Divide, Remainder}
use Rattle.script_tree.specs.Tree.{Tree, Number, Constant, Input, Pick, Acc, Apply, Join, If}

-- a result of arithmetic: a number of 64 bits with a sign, or an overflow
abbrev pub fits_i64 : ℤ → Bool
fits_i64 (pos n) = nat_lt n (2 ^ 63)
fits_i64 (negsuc n) = nat_lt n (2 ^ 63)

abbrev pub number : ℤ → Value
number z = if fits_i64 z then Int z else Faulty Overflow

-- a division, for a divisor that isn't 0
abbrev pub divided : (ℤ → ℤ → ℤ) → ℤ → ℤ → Value
divided f x (pos zero) = Faulty ZeroDivisor
divided f x y = number (f x y)

abbrev pub same_truth : Bool → Bool → Bool
same_truth true b = b
same_truth false b = not b

-- the strict operators on two truths
abbrev pub on_truths : Binary → Bool → Bool → Value
on_truths Equal a b = Truth (same_truth a b)
on_truths Unequal a b = Truth (not (same_truth a b))
on_truths op a b = Faulty Kind

-- the strict operators on two numbers
abbrev pub on_numbers : Binary → ℤ → ℤ → Value
on_numbers Add x y = number (x +ℤ y)
on_numbers Subtract x y = number (x -ℤ y)
on_numbers Multiply x y = number (x *ℤ y)
on_numbers Divide x y = divided int_div x y
on_numbers Remainder x y = divided int_rem x y
on_numbers Less x y = Truth (int_lt x y)
on_numbers AtMost x y = Truth (int_le x y)
on_numbers Greater x y = Truth (int_lt y x)
on_numbers AtLeast x y = Truth (int_le y x)
on_numbers Equal x y = Truth (int_eq x y)
on_numbers Unequal x y = Truth (not (int_eq x y))
on_numbers op x y = Faulty Kind

-- a strict operator on two values: a fault of the left side, then of the right side, then the kinds
abbrev pub strict : Binary → Value → Value → Value
strict op (Faulty f) y = Faulty f
strict op (Int x) (Faulty f) = Faulty f
strict op (Truth a) (Faulty f) = Faulty f
strict op (Int x) (Int y) = on_numbers op x y
strict op (Truth a) (Truth b) = on_truths op a b
strict op (Int x) (Truth b) = Faulty Kind
strict op (Truth a) (Int y) = Faulty Kind

-- a truth or a fault stays, and a number is of the wrong kind
abbrev pub as_truth : Value → Value
as_truth (Int x) = Faulty Kind
as_truth v = v

-- the second value where the first is this truth, the other truth by itself
abbrev pub when : Bool → Value → Value → Value
when b (Int x) v = Faulty Kind
when b (Faulty f) v = Faulty f
when true (Truth a) v = if a then as_truth v else Truth a
when false (Truth a) v = if a then Truth a else as_truth v

abbrev pub or_else : Value → Value → Value
or_else (Faulty f) v = v
or_else u v = u

abbrev pub combine : Binary → Value → Value → Value
combine OrElse = or_else
combine Or = when false
combine And = when true
combine op = strict op

abbrev pub unary : Unary → Value → Value
unary op (Faulty f) = Faulty f
unary Negate (Int x) = number (neg_ℤ x)
unary Not (Truth b) = Truth (not b)
unary Negate (Truth b) = Faulty Kind
unary Not (Int x) = Faulty Kind

abbrev pub choose_part : Value → Value → Value → Value
choose_part (Int x) u v = Faulty Kind
choose_part (Faulty f) u v = Faulty f
choose_part (Truth c) u v = if c then u else v

-- the value at an index, which the scripts of a graph always find
abbrev pub given : List Value → ℕ → Value
given values i = unwrap_or (slice_get values i) (Faulty Kind)

-- the value of a tree over the values of its inputs, of the picks, and of `acc`
abbrev pub eval : Tree → List Value → List Value → Value → Value
eval (Number z) inputs picks acc = Int z
eval (Constant b) inputs picks acc = Truth b
eval (Input i) inputs picks acc = given inputs i
eval (Pick i) inputs picks acc = given picks i
eval Acc inputs picks acc = acc
eval (Apply op x) inputs picks acc = unary op (eval x inputs picks acc)
eval (Join op x y) inputs picks acc = combine op (eval x inputs picks acc) (eval y inputs picks acc)
eval (If c x y) inputs picks acc = choose_part (eval c inputs picks acc) (eval x inputs picks acc) (eval y inputs picks acc)

-- the value of a script that has no picks
abbrev pub eval_script : Tree → List Value → Value → Value
eval_script tree inputs acc = eval tree inputs [] acc

-- the value of a body, which has no names and no `acc`
abbrev pub eval_body : Tree → List Value → Value
eval_body tree picks = eval tree [] picks (Faulty Kind)
