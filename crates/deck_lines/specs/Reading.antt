-- The form of words, found by cutting them.
use Rattle.std.specs.Prelude.{ℕ, ◌&&◌, if◌then◌else◌, List, [], ◌∷◌, ◌++◌, codes, Option, Some, None}
use Rattle.std.specs.Option.{option_map, option_and_then, is_some}
use Rattle.std.specs.List.{onto_first}
use Rattle.std.specs.Str.{bytes_eq}
use Rattle.script_tree.specs.Names.{is_name}
use Rattle.script_tree.specs.declared.value.Value.{Value}
use Rattle.deck_lines.specs.declared.keyword.Keyword.{Keyword}
use Rattle.deck_lines.specs.declared.keyword.Keyword.TheVariants as keyword
use Rattle.deck_lines.specs.Cuts.{has, before, behind}
use Rattle.deck_lines.specs.Values.{value_of}
use Rattle.deck_lines.specs.Forms.{Words, SetForm, PartForm, Form, Nothing, Source, Signal, Fold, Choose, Thread, Fire, Read}

-- the lists of words that a sign separates
abbrev pub cut : List ℕ → Words → List Words
cut sign [] = [] ∷ []
cut sign (word ∷ words) = if bytes_eq word sign then [] ∷ cut sign words else onto_first word (cut sign words)

-- a list of what each item is, if each is something
abbrev pub each : {A B : Type 0} → (A → Option B) → List A → Option (List B)
each f [] = Some []
each f (x ∷ xs) = option_and_then (λ y. option_map (λ ys. y ∷ ys) (each f xs)) (f x)

-- one word that is a name
abbrev pub name_of : Words → Option (List ℕ)
name_of [] = None
name_of (word ∷ []) = if is_name word then Some word else None
name_of (a ∷ b ∷ more) = None

-- names with commas between them
abbrev pub names_of : Words → Option (List (List ℕ))
names_of words = each name_of (cut (codes ",") words)

-- a name, `=` and what stands behind it
abbrev pub head_of : Words → Option (List ℕ × Words)
head_of [] = None
head_of (a ∷ []) = None
head_of (name ∷ sign ∷ rest) = if is_name name && bytes_eq sign (codes "=") then Some (name, rest) else None

abbrev pub set_by : List ℕ × Words → Option SetForm
set_by head = if is_some (value_of head.1) then Some head else None

abbrev pub set_of : Words → Option SetForm
set_of words = option_and_then set_by (head_of words)

abbrev pub sets_of : Words → Option (List SetForm)
sets_of words = each set_of (cut (codes ",") words)

-- a script, `among` and its candidates
abbrev pub part_of : Words → Option PartForm
part_of words =
    if has (codes "among") words then option_map (λ names. (before (codes "among") words, names)) (names_of (behind (codes "among") words))
    else None

-- the parts of a choose and its body: the last list of words, where it has no `among`
abbrev pub last_of : Words → Option (List PartForm × Option Words)
last_of words = if has (codes "among") words then option_map (λ part. (part ∷ [], None)) (part_of words) else Some ([], Some words)

abbrev pub behind_part : PartForm → List PartForm × Option Words → List PartForm × Option Words
behind_part part rest = (part ∷ rest.0, rest.1)

abbrev pub parts_of : List Words → Option (List PartForm × Option Words)
parts_of [] = None
parts_of (last ∷ []) = last_of last
parts_of (words ∷ next ∷ more) = option_and_then (λ part. option_map (behind_part part) (parts_of (next ∷ more))) (part_of words)

-- a choose has a part, and with two or more a body
abbrev pub choose_of : List ℕ → List PartForm → Option Words → Option Form
choose_of name [] over = None
choose_of name (part ∷ []) over = Some (Choose name (part ∷ []) over)
choose_of name (part ∷ next ∷ more) None = None
choose_of name (part ∷ next ∷ more) (Some script) = Some (Choose name (part ∷ next ∷ more) (Some script))

abbrev pub source_by : List ℕ × Words → Option Form
source_by head = if is_some (value_of head.1) then Some (Source head.0 head.1) else None

abbrev pub fold_by : List ℕ × Words → Option Form
fold_by head =
    if has (codes ":") head.1 && is_some (value_of (before (codes ":") head.1))
    then Some (Fold head.0 (before (codes ":") head.1) (behind (codes ":") head.1))
    else None

abbrev pub choose_by : List ℕ × Words → Option Form
choose_by head = option_and_then (λ found. choose_of head.0 found.0 found.1) (parts_of (cut (codes ":") head.1))

abbrev pub signal_by : List ℕ × Words → Option Form
signal_by head = Some (Signal head.0 head.1)

-- what a word that declares says of what stands behind it
abbrev pub declared_by : Keyword → List ℕ × Words → Option Form
declared_by keyword.Source head = source_by head
declared_by keyword.Signal head = signal_by head
declared_by keyword.Fold head = fold_by head
declared_by keyword.Choose head = choose_by head
declared_by k head = None

abbrev pub thread_of : Words → Option Form
thread_of [] = Some Thread
thread_of (word ∷ words) = None

abbrev pub fire_of : Words → Option Form
fire_of words =
    if has (codes "look") words then option_and_then
    (λ sets. option_map (λ looks. Fire sets looks) (names_of (behind (codes "look") words))) (sets_of (before (codes "look") words))
    else option_map (λ sets. Fire sets []) (sets_of words)

abbrev pub read_of : Words → Option Form
read_of words = option_map (λ looks. Read looks) (names_of words)

-- what the word that a line begins with says of it
abbrev pub keyword_of : List ℕ → Option Keyword
keyword_of word =
    if bytes_eq word (codes "source") then Some keyword.Source
    else if bytes_eq word (codes "signal") then Some keyword.Signal
    else if bytes_eq word (codes "fold") then Some keyword.Fold
    else if bytes_eq word (codes "choose") then Some keyword.Choose
    else if bytes_eq word (codes "thread") then Some keyword.Thread
    else if bytes_eq word (codes "fire") then Some keyword.Fire
    else if bytes_eq word (codes "read") then Some keyword.Read
    else None

abbrev pub form_by : Keyword → Words → Option Form
form_by keyword.Source words = option_and_then source_by (head_of words)
form_by keyword.Signal words = option_and_then signal_by (head_of words)
form_by keyword.Fold words = option_and_then fold_by (head_of words)
form_by keyword.Choose words = option_and_then choose_by (head_of words)
form_by keyword.Thread words = thread_of words
form_by keyword.Fire words = fire_of words
form_by keyword.Read words = read_of words

-- the form of a line, if its words have one
abbrev pub form_of : Words → Option Form
form_of [] = Some Nothing
form_of (word ∷ words) = option_and_then (λ k. form_by k words) (keyword_of word)

-- a name and the value that it is set to
abbrev pub said_by : List ℕ × Words → Option (List ℕ × Value)
said_by head = option_map (λ value. (head.0, value)) (value_of head.1)

abbrev pub set_said : Words → Option (List ℕ × Value)
set_said words = option_and_then said_by (head_of words)

abbrev pub sets_said : Words → Option (List (List ℕ × Value))
sets_said words = each set_said (cut (codes ",") words)

-- what is found, behind further selectors
abbrev pub prepended : List PartForm → List PartForm × Option Words → List PartForm × Option Words
prepended parts found = (parts ++ found.0, found.1)
