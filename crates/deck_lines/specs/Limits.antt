-- The scripts of a form, and the limits that it keeps or goes beyond.
use Rattle.std.specs.Prelude.{ℕ, ◌<◌, ◌≤◌, min, false, true, ◌⊎◌, List, [], ◌∷◌, ◌++◌, length, map, Option, Some, None}
use Rattle.std.specs.List.{AllByRecursion}
use Rattle.script_tree.specs.declared.limits.TheConstants.{LEVELS, INPUTS, CANDIDATES, SELECTORS, SETS, LOOKS}
use Rattle.script_tree.specs.Tree.{Tree}
use Rattle.script_grammar.specs.Grammar.{Spells, BeginsWithin, IsTooDeepAt}
use Rattle.script_grammar.specs.Refusals.{IsFirstFaultAt}
use Rattle.expr_script.specs.declared.atoms.Atoms.{Atoms}
use Rattle.expr_script.specs.declared.atoms.Atoms.TheVariants.{Script, Body}
use Rattle.expr_script.specs.Tokens.{script_names, names, tokens}
use Rattle.signal_graph.specs.Declarations.{different_names}
use Rattle.deck_lines.specs.declared.fault.Limit.{Limit}
use Rattle.deck_lines.specs.declared.fault.Limit.TheVariants.{Levels, Inputs, Candidates, Selectors, Sets, Looks}
use Rattle.deck_lines.specs.Forms as form
use Rattle.deck_lines.specs.Forms.{Words, SetForm, PartForm, Form}

-- the words of a script, and which of them may stand for values in it
abbrev pub Job : Type 0
Job = Atoms × Words

abbrev pub selector_script : PartForm → Job
selector_script part = (Script false, part.0)

-- a body may use the picks of all selectors, of which there are at most four
abbrev pub body_script : ℕ → Option Words → List Job
body_script parts None = []
body_script parts (Some script) = (Body (min parts SELECTORS), script) ∷ []

-- the scripts of a form, in their order; in those of folds alone `acc` may stand
abbrev pub scripts_of : Form → List Job
scripts_of (form.Signal name script) = (Script false, script) ∷ []
scripts_of (form.Fold name start script) = (Script true, script) ∷ []
scripts_of (form.Choose name parts over) = map selector_script parts ++ body_script (length parts) over
scripts_of f = []

abbrev pub selectors_of : Form → List PartForm
selectors_of (form.Choose name parts over) = parts
selectors_of f = []

abbrev pub sets_of : Form → List SetForm
sets_of (form.Fire sets looks) = sets
sets_of f = []

abbrev pub looks_of : Form → List (List ℕ)
looks_of (form.Fire sets looks) = looks
looks_of (form.Read looks) = looks
looks_of f = []

-- words are no script: they go wrong before any of them is nested too deep
pub record IsWrong (job : Job) : Type 0 where
  pub number : ℕ
  pub first : IsFirstFaultAt LEVELS (tokens job.0 job.1) number

-- a word is nested too deep, in what begins as a script does
pub record IsTooDeep (job : Job) : Type 0 where
  pub number : ℕ
  pub first : IsTooDeepAt LEVELS (tokens job.0 job.1) number

-- words are a script that isn't nested too deep
pub record IsShallow (job : Job) : Type 0 where
  pub tree : Tree
  pub spells : Spells (tokens job.0 job.1) tree
  pub shallow : BeginsWithin LEVELS (tokens job.0 job.1)

-- one item of a list is such
abbrev pub One : {A : Type 0} → (A → Type 0) → List A → Type 0
One P [] = ⊥
One P (x ∷ xs) = P x ⊎ One P xs

-- the names of selectors' scripts, those of one script once
abbrev pub all_names : List PartForm → List (List ℕ)
all_names [] = []
all_names (part ∷ parts) = script_names part.0 ++ all_names parts

-- how many different names all selectors have together
abbrev pub together : Form → ℕ
together f = length (different_names (all_names (selectors_of f)))

-- a form keeps a limit
abbrev pub Keeps : Form → Limit → Type 0
Keeps f Levels = AllByRecursion IsShallow (scripts_of f)
Keeps f Inputs = AllByRecursion (λ job. length (names job.0 job.1) ≤ INPUTS) (scripts_of f) × (together f ≤ INPUTS)
Keeps f Candidates = AllByRecursion (λ part. length part.1 ≤ CANDIDATES) (selectors_of f)
Keeps f Selectors = length (selectors_of f) ≤ SELECTORS
Keeps f Sets = length (sets_of f) ≤ SETS
Keeps f Looks = length (looks_of f) ≤ LOOKS

-- a form goes beyond a limit
abbrev pub Passes : Form → Limit → Type 0
Passes f Levels = One IsTooDeep (scripts_of f)
Passes f Inputs = One (λ job. INPUTS < length (names job.0 job.1)) (scripts_of f) ⊎ (INPUTS < together f)
Passes f Candidates = One (λ part. CANDIDATES < length part.1) (selectors_of f)
Passes f Selectors = SELECTORS < length (selectors_of f)
Passes f Sets = SETS < length (sets_of f)
Passes f Looks = LOOKS < length (looks_of f)

-- the limits that are looked at before one
abbrev pub earlier : Limit → List Limit
earlier Levels = []
earlier Inputs = Levels ∷ []
earlier Candidates = Levels ∷ Inputs ∷ []
earlier Selectors = Levels ∷ Inputs ∷ Candidates ∷ []
earlier Sets = Levels ∷ Inputs ∷ Candidates ∷ Selectors ∷ []
earlier Looks = Levels ∷ Inputs ∷ Candidates ∷ Selectors ∷ Sets ∷ []

abbrev pub limits : List Limit
limits = Levels ∷ Inputs ∷ Candidates ∷ Selectors ∷ Sets ∷ Looks ∷ []

-- each script of a form is one, too deep or not; the form goes beyond a limit, and keeps those before it
pub record IsBeyond (f : Form) (limit : Limit) : Type 0 where
  pub scripts : AllByRecursion (λ job. IsShallow job ⊎ IsTooDeep job) (scripts_of f)
  pub beyond : Passes f limit
  pub before : AllByRecursion (Keeps f) (earlier limit)
