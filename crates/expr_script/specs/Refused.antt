-- The fault for a refusal of tokens.
use Rattle.std.specs.Prelude.{ℕ}
use Rattle.script_grammar.specs.declared.reader.Refusal.{Refusal}
use Rattle.script_grammar.specs.declared.reader.Refusal.TheVariants as refusal
use Rattle.expr_script.specs.declared.faults.ScriptFault.{ScriptFault}
use Rattle.expr_script.specs.declared.faults.ScriptFault.TheVariants.{Syntax, TooDeep, Memory}

-- the place of a fault is where the word at fault stands
abbrev pub fault_of : (ℕ → ℕ) → Refusal → ScriptFault
fault_of places (refusal.Syntax k) = Syntax (places k)
fault_of places (refusal.TooDeep k) = TooDeep (places k)
fault_of places refusal.Memory = Memory
