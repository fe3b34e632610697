-- What a line says, by its words.
use Rattle.std.specs.Prelude.{◌≡◌, ℕ, min, false, true, List, length, Option, Some, None, Result, Ok, Err}
use Rattle.std.specs.List.{AllByRecursion, AllZip}
use Rattle.script_tree.specs.declared.limits.TheConstants.{SELECTORS}
use Rattle.script_tree.specs.declared.value.Value.{Value}
use Rattle.script_tree.specs.Scripts.{Scripted}
use Rattle.expr_script.specs.Spelled.{SpellsScript, SpellsBody}
use Rattle.signal_graph.specs.declared.builder.DeclKind.TheVariants as kind
use Rattle.signal_graph.specs.declared.call.Call.TheVariants as call
use Rattle.signal_graph.specs.Declarations.{Part}
use Rattle.deck_lines.specs.declared.fault.Limit.{Limit}
use Rattle.deck_lines.specs.declared.fault.LineFault.{LineFault}
use Rattle.deck_lines.specs.declared.fault.LineFault.TheVariants.{Syntax, TooMany, Memory}
use Rattle.deck_lines.specs.declared.line.Line.{Line}
use Rattle.deck_lines.specs.declared.line.Line.TheVariants.{Nothing, Declares, Thread, Calls}
use Rattle.deck_lines.specs.Forms as form
use Rattle.deck_lines.specs.Forms.{Words, SetForm, PartForm, Form, Fits}
use Rattle.deck_lines.specs.Limits.{IsWrong, One, scripts_of, Keeps, limits, IsBeyond}
use Rattle.deck_lines.specs.Values.{value_of}

-- a name is set to the value that its words spell
abbrev pub SaysSet : SetForm → List ℕ × Value → Type 0
SaysSet s set = (s.0 ≡ set.0) × (value_of s.1 ≡ Some set.1)

-- a selector's script is the one that its words spell
abbrev pub SaysPart : PartForm → Part → Type 0
SaysPart p part = SpellsScript false p.0 part.0 × (p.1 ≡ part.1)

-- a body is one over the picks of all selectors
abbrev pub SaysBody : ℕ → Option Words → Option Scripted → Type 0
SaysBody parts None None = Unit {0}
SaysBody parts (Some words) (Some script) = SpellsBody (min parts SELECTORS) words script
SaysBody parts words script = ⊥

-- what a form says
abbrev pub Says : Form → Line → Type 0
Says form.Nothing line = line ≡ Nothing
Says (form.Source name start) line = (value : Value) × (value_of start ≡ Some value) × (line ≡ Declares name (kind.Source value))
Says (form.Signal name words) line = (script : Scripted) × SpellsScript false words script × (line ≡ Declares name (kind.Signal script))
Says (form.Fold name start words) line =
    (value : Value) × (script : Scripted) × (value_of start ≡ Some value) × SpellsScript true words script
    × (line ≡ Declares name (kind.Fold value script))
Says (form.Choose name words over) line =
    (parts : List Part) × (body : Option Scripted) × AllZip SaysPart words parts × SaysBody (length words) over body
    × (line ≡ Declares name (kind.Choose parts body))
Says form.Thread line = line ≡ Thread
Says (form.Fire words looks) line = (sets : List (List ℕ × Value)) × AllZip SaysSet words sets × (line ≡ Calls (call.Fire sets looks))
Says (form.Read looks) line = line ≡ Calls (call.Read looks)

-- words say something: a form fits, keeps all limits, and says it
pub record IsLine (words : Words) (line : Line) : Type 0 where
  pub f : Form
  pub fits : Fits words f
  pub says : Says f line
  pub within : AllByRecursion (Keeps f) limits

-- a form fits that goes beyond a limit, and no script of it is none
pub record GoesBeyond (words : Words) (limit : Limit) : Type 0 where
  pub f : Form
  pub fits : Fits words f
  pub beyond : IsBeyond f limit

-- why words say nothing: no form fits or a script is none; or the first limit that the form goes beyond
abbrev pub IsLineFault : Words → LineFault → Type 0
IsLineFault words Syntax = (f : Form) → Fits words f → One IsWrong (scripts_of f)
IsLineFault words (TooMany limit) = GoesBeyond words limit
IsLineFault words Memory = Unit {0}

-- the same of a form that was found
abbrev pub IsReadAs : Form → Result Line LineFault → Type 0
IsReadAs f (Ok line) = Says f line × AllByRecursion (Keeps f) limits
IsReadAs f (Err Syntax) = One IsWrong (scripts_of f)
IsReadAs f (Err (TooMany limit)) = IsBeyond f limit
IsReadAs f (Err Memory) = Unit {0}

abbrev pub IsRead : Option Form → Result Line LineFault → Type 0
IsRead None (Ok line) = ⊥
IsRead None (Err Syntax) = Unit {0}
IsRead None (Err (TooMany limit)) = ⊥
IsRead None (Err Memory) = Unit {0}
IsRead (Some f) result = IsReadAs f result
