-- From the answer of a script to that of its line.
use Rattle.std.proofs.Common.{◌≡◌, ℕ, sym, subst}
use Rattle.std.specs.Prelude.{Err}
use Rattle.expr_script.specs.declared.atoms.Atoms.{Atoms}
use Rattle.expr_script.specs.declared.faults.ScriptFault.{ScriptFault}
use Rattle.expr_script.specs.declared.faults.ScriptFault.TheVariants as script
use Rattle.expr_script.specs.Spelled.{IsFault}
use Rattle.deck_lines.specs.declared.fault.LineFault.{LineFault}
use Rattle.deck_lines.specs.Forms.{Words}
use Rattle.deck_lines.specs.Scripts.{line_fault, IsScriptOf}

pub fault_read : (atoms : Atoms) (words : Words) (places : ℕ → ℕ) (fault : ScriptFault) → IsFault atoms words places fault → IsScriptOf atoms words (Err (line_fault fault))
fault_read atoms words places (script.Syntax at) h = record { number = h.number; first = h.first }
fault_read atoms words places (script.TooDeep at) h = record { number = h.number; first = h.first }
fault_read atoms words places script.TooManyInputs h = h
fault_read atoms words places script.Memory h = tt

pub fault_read_as : (atoms : Atoms) (words : Words) (places : ℕ → ℕ) (fault : ScriptFault) (line : LineFault) → IsFault atoms words places fault → line ≡ line_fault fault → IsScriptOf atoms words (Err line)
fault_read_as atoms words places fault line h e = subst (λ (l : LineFault). IsScriptOf atoms words (Err l)) (sym e) (fault_read atoms words places fault h)

pub ruleset script_laws = (fault_read_as)
