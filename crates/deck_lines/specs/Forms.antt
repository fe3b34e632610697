-- The forms of a line: what its words are, before its scripts are read.
use Rattle.std.specs.Prelude.{◌≡◌, ℕ, ◌≤◌, false, IsTrue, List, [], ◌∷◌, ◌++◌, length, map, codes, Option, Some, None, IsSome}
use Rattle.std.specs.List.{AllByRecursion}
use Rattle.script_tree.specs.Names.{is_name}
use Rattle.deck_lines.specs.Cuts.{has, separated}
use Rattle.deck_lines.specs.Values.{value_of}

abbrev pub Words : Type 0
Words = List (List ℕ)

-- a name, and the words of the value that it is set to
abbrev pub SetForm : Type 0
SetForm = List ℕ × Words

-- one selector of a choose: the words of its script, and its candidates
abbrev pub PartForm : Type 0
PartForm = Words × List (List ℕ)

pub data Form : Type 0 where
  Nothing : Form
  Source : (name : List ℕ) (start : Words) → Form
  Signal : (name : List ℕ) (script : Words) → Form
  Fold : (name : List ℕ) (start script : Words) → Form
  Choose : (name : List ℕ) (parts : List PartForm) (over : Option Words) → Form
  Thread : Form
  Fire : (sets : List SetForm) (looks : List (List ℕ)) → Form
  Read : (looks : List (List ℕ)) → Form

abbrev pub one_each : List (List ℕ) → List Words
one_each names = map (λ name. name ∷ []) names

abbrev pub with_commas : List (List ℕ) → Words
with_commas names = separated (codes ",") (one_each names)

abbrev pub spelled_set : SetForm → Words
spelled_set s = s.0 ∷ codes "=" ∷ s.1

abbrev pub spelled_part : PartForm → Words
spelled_part part = part.0 ++ codes "among" ∷ with_commas part.1

abbrev pub spelled_looks : List (List ℕ) → Words
spelled_looks [] = []
spelled_looks (name ∷ looks) = codes "look" ∷ with_commas (name ∷ looks)

-- the parts of a choose, of which a body is the last
abbrev pub pieces_of : List PartForm → Option Words → List Words
pieces_of parts None = map spelled_part parts
pieces_of parts (Some script) = map spelled_part parts ++ script ∷ []

-- the words of each form
abbrev pub spelled : Form → Words
spelled Nothing = []
spelled (Source name start) = codes "source" ∷ name ∷ codes "=" ∷ start
spelled (Signal name script) = codes "signal" ∷ name ∷ codes "=" ∷ script
spelled (Fold name start script) = codes "fold" ∷ name ∷ codes "=" ∷ (start ++ codes ":" ∷ script)
spelled (Choose name parts over) = codes "choose" ∷ name ∷ codes "=" ∷ separated (codes ":") (pieces_of parts over)
spelled Thread = codes "thread" ∷ []
spelled (Fire sets looks) = codes "fire" ∷ (separated (codes ",") (map spelled_set sets) ++ spelled_looks looks)
spelled (Read looks) = codes "read" ∷ with_commas looks

abbrev pub IsName : List ℕ → Type 0
IsName name = IsTrue (is_name name)

abbrev pub IsValue : Words → Type 0
IsValue words = IsSome (value_of words)

-- a set is of a name, to a value
pub record IsSet (s : SetForm) : Type 0 where
  pub named : IsName s.0
  pub start : IsValue s.1

-- a selector's script ends before the first `among`, and a colon ends the part
pub record IsPart (part : PartForm) : Type 0 where
  pub whole : has (codes ":") part.0 ≡ false
  pub script : has (codes "among") part.0 ≡ false
  pub some : 1 ≤ length part.1
  pub named : AllByRecursion IsName part.1

-- with two or more selectors there is a body; it has no colon and no `among`
abbrev pub IsOver : ℕ → Option Words → Type 0
IsOver parts None = parts ≤ 1
IsOver parts (Some script) = (has (codes ":") script ≡ false) × (has (codes "among") script ≡ false)

-- the words in the places of names and values are such, and what ends at a sign doesn't hold it
abbrev pub IsProper : Form → Type 0
IsProper Nothing = Unit {0}
IsProper (Source name start) = IsName name × IsValue start
IsProper (Signal name script) = IsName name
IsProper (Fold name start script) = IsName name × IsValue start
IsProper (Choose name parts over) = IsName name × (1 ≤ length parts) × AllByRecursion IsPart parts × IsOver (length parts) over
IsProper Thread = Unit {0}
IsProper (Fire sets looks) = (1 ≤ length sets) × AllByRecursion IsSet sets × AllByRecursion IsName looks
IsProper (Read looks) = (1 ≤ length looks) × AllByRecursion IsName looks

-- a line of these words has this form
pub record Fits (words : Words) (form : Form) : Type 0 where
  pub same : words ≡ spelled form
  pub proper : IsProper form
