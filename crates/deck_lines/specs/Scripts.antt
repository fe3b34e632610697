-- What words are read as where a script has to be.
use Rattle.std.specs.Prelude.{ℕ, Bool, Result, Ok, Err}
use Rattle.script_tree.specs.Scripts.{Scripted}
use Rattle.expr_script.specs.declared.atoms.Atoms.{Atoms}
use Rattle.expr_script.specs.declared.atoms.Atoms.TheVariants.{Script, Body}
use Rattle.expr_script.specs.declared.faults.ScriptFault.{ScriptFault}
use Rattle.expr_script.specs.declared.faults.ScriptFault.TheVariants as script
use Rattle.expr_script.specs.Spelled.{SpellsWith, SpellsTooMany}
use Rattle.deck_lines.specs.declared.fault.Limit.TheVariants.{Levels, Inputs, Candidates, Selectors, Sets, Looks}
use Rattle.deck_lines.specs.declared.fault.LineFault.{LineFault}
use Rattle.deck_lines.specs.declared.fault.LineFault.TheVariants.{Syntax, TooMany, Memory}
use Rattle.deck_lines.specs.Forms.{Words}
use Rattle.deck_lines.specs.Limits.{IsWrong, IsTooDeep}

-- the fault of a line whose script is at fault
abbrev pub line_fault : ScriptFault → LineFault
line_fault (script.Syntax place) = Syntax
line_fault (script.TooDeep place) = TooMany Levels
line_fault script.TooManyInputs = TooMany Inputs
line_fault script.Memory = Memory

-- the script that words are, or why they are none
abbrev pub IsScriptOf : Atoms → Words → Result Scripted LineFault → Type 0
IsScriptOf atoms words (Ok found) = SpellsWith atoms words found
IsScriptOf atoms words (Err Syntax) = IsWrong (atoms, words)
IsScriptOf atoms words (Err (TooMany Levels)) = IsTooDeep (atoms, words)
IsScriptOf atoms words (Err (TooMany Inputs)) = SpellsTooMany atoms words
IsScriptOf atoms words (Err (TooMany Candidates)) = ⊥
IsScriptOf atoms words (Err (TooMany Selectors)) = ⊥
IsScriptOf atoms words (Err (TooMany Sets)) = ⊥
IsScriptOf atoms words (Err (TooMany Looks)) = ⊥
IsScriptOf atoms words (Err Memory) = Unit {0}

abbrev pub IsScriptRead : Bool → Words → Result Scripted LineFault → Type 0
IsScriptRead acc words result = IsScriptOf (Script acc) words result

abbrev pub IsBodyRead : ℕ → Words → Result Scripted LineFault → Type 0
IsBodyRead picks words result = IsScriptOf (Body picks) words result
