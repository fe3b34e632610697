-- The selectors of a line while they are gathered.
use Rattle.std.specs.Prelude.{◌≡◌, ◌<◌, ◌≤◌, min, Bool, true, false, ◌⊎◌, List, ◌∷◌, ◌++◌}
use Rattle.std.specs.Prelude.{[], length, map, Option, Some, None, Result, Ok, Err}
use Rattle.std.specs.List.{AllByRecursion, AllZip}
use Rattle.script_tree.specs.declared.limits.TheConstants.{INPUTS, CANDIDATES}
use Rattle.script_tree.specs.Scripts.{HasNoPicks, HasNoAcc}
use Rattle.expr_script.specs.Tokens.{names}
use Rattle.signal_graph.specs.Declarations.{Part}
use Rattle.deck_lines.specs.declared.fault.LineFault.{LineFault}
use Rattle.deck_lines.specs.declared.fault.LineFault.TheVariants.{Syntax, TooMany, Memory}
use Rattle.deck_lines.specs.declared.selectors.Selectors.{Selectors}
use Rattle.deck_lines.specs.Forms.{PartForm}
use Rattle.deck_lines.specs.Limits.{Job, selector_script, IsWrong, IsTooDeep, IsShallow, One}
use Rattle.deck_lines.specs.Lines.{SaysPart}

-- a script is one, too deep or not
abbrev pub IsScript : Job → Type 0
IsScript job = IsShallow job ⊎ IsTooDeep job

abbrev pub HasMany : Job → Type 0
HasMany job = INPUTS < length (names job.0 job.1)

abbrev pub HasFew : Job → Type 0
HasFew job = length (names job.0 job.1) ≤ INPUTS

abbrev pub IsCrowded : PartForm → Type 0
IsCrowded part = CANDIDATES < length part.1

abbrev pub HasRoom : PartForm → Type 0
HasRoom part = length part.1 ≤ CANDIDATES

-- what is known of the scripts of selectors: one is too deep, one has too many names, or all are there
abbrev pub Scripting : List PartForm → Bool → Bool → List Part → Type 0
Scripting forms true many parts = AllByRecursion IsScript (map selector_script forms) × One IsTooDeep (map selector_script forms)
Scripting forms false true parts = AllByRecursion IsShallow (map selector_script forms) × One HasMany (map selector_script forms)
Scripting forms false false parts = AllZip SaysPart forms parts

-- whether one has too many candidates
abbrev pub Crowding : List PartForm → Bool → Type 0
Crowding forms true = One IsCrowded forms
Crowding forms false = AllByRecursion HasRoom forms

-- a selector has a candidate, and neither `acc` nor a pick in its script
pub record IsSound (part : Part) : Type 0 where
  pub some : 1 ≤ length part.1
  pub no_acc : HasNoAcc part.0
  pub no_picks : HasNoPicks part.0

-- what is gathered of the selectors so far
pub record Gathers (forms : List PartForm) (selectors : Selectors) : Type 0 where
  pub count : selectors.count ≡ min (length forms) 5
  pub scripts : Scripting forms selectors.deep selectors.many selectors.within.items
  pub crowd : Crowding forms selectors.crowded
  pub sound : AllByRecursion IsSound selectors.within.items

-- one more selector
abbrev pub Adds : Option PartForm → Selectors → Selectors → Result (Unit {0}) LineFault → Type 0
Adds None old new (Ok u) = ⊥
Adds None old new (Err Syntax) = Unit {0}
Adds None old new (Err (TooMany limit)) = ⊥
Adds None old new (Err Memory) = Unit {0}
Adds (Some form) old new (Ok u) = (forms : List PartForm) → Gathers forms old → Gathers (forms ++ form ∷ []) new
Adds (Some form) old new (Err Syntax) = IsWrong (selector_script form)
Adds (Some form) old new (Err (TooMany limit)) = ⊥
Adds (Some form) old new (Err Memory) = Unit {0}

-- some selectors were gathered
pub record HasGathered (selectors : Selectors) : Type 0 where
  pub forms : List PartForm
  pub are : Gathers forms selectors
