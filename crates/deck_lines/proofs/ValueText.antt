-- The words of a value are written as the value is printed.
use Rattle.std.proofs.Common.{◌≡◌, suc, ◌∷◌, true, false, refl, ap, append-nil}
use Rattle.std.specs.Prelude.{pos, negsuc, decimal}
use Rattle.script_tree.specs.declared.value.Fault.{Fault}
use Rattle.script_tree.specs.declared.value.Fault.TheVariants.{Overflow, ZeroDivisor, Kind, NoChoice}
use Rattle.script_tree.specs.declared.value.Value.{Value}
use Rattle.script_tree.specs.declared.value.Value.TheVariants.{Int, Bool as Truth, Fault as Faulty}
use Rattle.script_tree.specs.Printed.{value_text}
use Rattle.expr_script.specs.Joined.{joined}
use Rattle.deck_lines.specs.Canonical.{value_words}

fault_written : (f : Fault) → joined (value_words (Faulty f)) ≡ value_text (Faulty f)
fault_written Overflow = refl
fault_written ZeroDivisor = refl
fault_written Kind = refl
fault_written NoChoice = refl

pub value_written : (v : Value) → joined (value_words v) ≡ value_text v
value_written (Int (pos n)) = append-nil (decimal n)
value_written (Int (negsuc n)) = ap (λ ds. 45 ∷ ds) (append-nil (decimal (suc n)))
value_written (Truth true) = refl
value_written (Truth false) = refl
value_written (Faulty f) = fault_written f
