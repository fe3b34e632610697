-- How values are printed.
use Rattle.std.specs.Prelude.{ℕ, true, false, List, ◌++◌, codes}
use Rattle.std.specs.Fmt.{signed_decimal}
use Rattle.script_tree.specs.declared.value.Fault.{Fault}
use Rattle.script_tree.specs.declared.value.Fault.TheVariants.{Overflow, ZeroDivisor, Kind, NoChoice}
use Rattle.script_tree.specs.declared.value.Value.{Value}
use Rattle.script_tree.specs.declared.value.Value.TheVariants.{Int, Bool as Truth, Fault as Faulty}

abbrev pub fault_text : Fault → List ℕ
fault_text Overflow = codes "overflow"
fault_text ZeroDivisor = codes "zero-divisor"
fault_text Kind = codes "kind"
fault_text NoChoice = codes "no-choice"

-- a number in decimal digits, a truth by its word, and a fault by its kind behind the word `fault`
abbrev pub value_text : Value → List ℕ
value_text (Int x) = signed_decimal x
value_text (Truth true) = codes "true"
value_text (Truth false) = codes "false"
value_text (Faulty f) = codes "fault " ++ fault_text f
