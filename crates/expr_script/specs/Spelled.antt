-- The script that words spell, and the answer where they spell none.
use Rattle.std.specs.Prelude.{◌≡◌, ℕ, ◌<◌, ◌≤◌, Bool, false, List, length, Result, Ok, Err}
use Rattle.script_tree.specs.declared.limits.TheConstants.{INPUTS, LEVELS}
use Rattle.script_tree.specs.Tree.{Tree}
use Rattle.script_tree.specs.Scripts.{Scripted, WellFormed, HasNoPicks, HasNoAcc, IsBody}
use Rattle.script_grammar.specs.Grammar.{Spells, BeginsWithin, IsTooDeepAt}
use Rattle.script_grammar.specs.Grammar as grammar
use Rattle.script_grammar.specs.Canonical.{canonical}
use Rattle.script_grammar.specs.Refusals.{IsFirstFaultAt}
use Rattle.expr_script.specs.declared.atoms.Atoms.{Atoms}
use Rattle.expr_script.specs.declared.atoms.Atoms.TheVariants.{Script, Body}
use Rattle.expr_script.specs.declared.faults.ScriptFault.{ScriptFault}
use Rattle.expr_script.specs.declared.faults.ScriptFault.TheVariants.{Syntax, TooDeep, TooManyInputs, Memory}
use Rattle.expr_script.specs.Tokens.{names, tokens}

-- words spell a script: their tokens spell its tree and are nested within the limit, and its names are the different
-- names among the words, of which there are at most 64
pub record SpellsWith (atoms : Atoms) (words : List (List ℕ)) (script : Scripted) : Type 0 where
  pub tree : Spells (tokens atoms words) script.tree
  pub shallow : BeginsWithin LEVELS (tokens atoms words)
  pub named : script.names ≡ names atoms words
  pub few : length (names atoms words) ≤ INPUTS

-- words spell a tree with more names than a script may have
pub record SpellsTooMany (atoms : Atoms) (words : List (List ℕ)) : Type 0 where
  pub spelled : Tree
  pub tree : Spells (tokens atoms words) spelled
  pub shallow : BeginsWithin LEVELS (tokens atoms words)
  pub many : INPUTS < length (names atoms words)

-- the word at a place is the first such that no script begins with the words up to it, or the place is the end and a
-- script goes on there; and no word before it is nested above the limit
pub record IsSyntaxFault (atoms : Atoms) (words : List (List ℕ)) (places : ℕ → ℕ) (at : ℕ) : Type 0 where
  pub number : ℕ
  pub first : IsFirstFaultAt LEVELS (tokens atoms words) number
  pub place : at ≡ places number

-- the word at a place is the first that is nested above the limit, and some script begins with the words up to it
pub record IsDepthFault (atoms : Atoms) (words : List (List ℕ)) (places : ℕ → ℕ) (at : ℕ) : Type 0 where
  pub number : ℕ
  pub first : IsTooDeepAt LEVELS (tokens atoms words) number
  pub place : at ≡ places number

-- what each fault says of words that stand at these places; behind the last word the place is the end
abbrev pub IsFault : Atoms → List (List ℕ) → (ℕ → ℕ) → ScriptFault → Type 0
IsFault atoms words places (Syntax at) = IsSyntaxFault atoms words places at
IsFault atoms words places (TooDeep at) = IsDepthFault atoms words places at
IsFault atoms words places TooManyInputs = SpellsTooMany atoms words
IsFault atoms words places Memory = Unit {0}

-- what each answer says; want of memory says nothing
abbrev pub IsAnswer : Atoms → List (List ℕ) → (ℕ → ℕ) → Result Scripted ScriptFault → Type 0
IsAnswer atoms words places (Ok script) = SpellsWith atoms words script
IsAnswer atoms words places (Err fault) = IsFault atoms words places fault

-- which atoms stand in a script of each kind
abbrev pub HasAtoms : Atoms → Scripted → Type 0
HasAtoms (Script acc) script = HasNoPicks script × (acc ≡ false → HasNoAcc script)
HasAtoms (Body picks) script = IsBody picks script

-- a well-formed script of a kind
abbrev pub IsFormed : Atoms → Scripted → Type 0
IsFormed atoms script = WellFormed script.names script.tree × HasAtoms atoms script

-- a script whose canonical text is nested within the limit
abbrev pub IsShallow : Scripted → Type 0
IsShallow script = BeginsWithin LEVELS (grammar.tokens (canonical script.tree))

-- the same for the two kinds, as callers see them

abbrev pub FormedScript : Bool → Scripted → Type 0
FormedScript acc script = IsFormed (Script acc) script

abbrev pub FormedBody : ℕ → Scripted → Type 0
FormedBody picks script = IsFormed (Body picks) script

abbrev pub SpellsScript : Bool → List (List ℕ) → Scripted → Type 0
SpellsScript acc words script = SpellsWith (Script acc) words script

abbrev pub SpellsBody : ℕ → List (List ℕ) → Scripted → Type 0
SpellsBody picks words script = SpellsWith (Body picks) words script

abbrev pub IsScriptAnswer : Bool → List (List ℕ) → (ℕ → ℕ) → Result Scripted ScriptFault → Type 0
IsScriptAnswer acc words places answer = IsAnswer (Script acc) words places answer

-- a body has no names, so never too many
abbrev pub IsBodyAnswer : ℕ → List (List ℕ) → (ℕ → ℕ) → Result Scripted ScriptFault → Type 0
IsBodyAnswer picks words places answer = IsAnswer (Body picks) words places answer
