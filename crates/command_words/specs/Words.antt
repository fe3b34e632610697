-- The command lines, and what each asks for: the word of a command, and behind it the options that it has, in either order and none
-- twice, or for `make` a number.
use Rattle.std.specs.Prelude.{◌≡◌, ℕ, ◌<◌, ◌≤◌, ◌^◌, Bool, false, if◌then◌else◌, ⊤, ◌⊎◌}
use Rattle.std.specs.Prelude.{List, [], ◌∷◌, ◌++◌, codes, length, Result, Ok, Err}
use Rattle.std.specs.Str.Parse.{IsNumeral, digits_value}
use Rattle.script_tree.specs.declared.limits.TheConstants.{VERSIONS}
use Rattle.command_words.specs.declared.command.Command.{Command}
use Rattle.command_words.specs.declared.command.Command.TheVariants.{Run, Replay, Serial, Print, Check, Make}
use Rattle.command_words.specs.declared.command.WordsFault.{WordsFault}
use Rattle.command_words.specs.declared.command.WordsFault.TheVariants.{Refused, Memory}

-- 1 to 7 decimal digits that write a number, which is at most the greatest limit of versions
pub record IsLimit (text : List ℕ) : Type 0 where
  pub digits : IsNumeral 10 text
  pub few : length text ≤ 7
  pub within : digits_value 10 text ≤ VERSIONS

-- the option that gives a limit of versions, with its digits as a word behind it or, by `=`, in the same word
pub record GivesLimit (versions : ℕ) (words : List (List ℕ)) : Type 0 where
  pub text : List ℕ
  pub limit : IsLimit text
  pub number : versions ≡ digits_value 10 text
  pub spelled : (words ≡ codes "--versions" ∷ text ∷ []) ⊎ (words ≡ (codes "--versions=" ++ text) ∷ [])

-- a command's word, and behind it its two options in either order; without the option the limit of versions is the greatest one
pub record IsLine (word : List ℕ) (versions : ℕ) (json : Bool) (words : List (List ℕ)) : Type 0 where
  pub limit : List (List ℕ)
  pub flag : List (List ℕ)
  pub versions_are : GivesLimit versions limit ⊎ ((limit ≡ []) × (versions ≡ VERSIONS))
  pub json_is : flag ≡ (if json then codes "--json" ∷ [] else [])
  pub words_are : (words ≡ word ∷ (limit ++ flag)) ⊎ (words ≡ word ∷ (flag ++ limit))

-- 1 to 20 decimal digits that write a number of 64 bits
pub record IsNumber (text : List ℕ) : Type 0 where
  pub digits : IsNumeral 10 text
  pub few : length text ≤ 20
  pub within : digits_value 10 text < 2 ^ 64

-- words are the line of a command
abbrev pub AsksFor : List (List ℕ) → Command → Type 0
AsksFor words (Run versions json) = IsLine (codes "run") versions json words
AsksFor words (Replay versions json) = IsLine (codes "replay") versions json words
AsksFor words (Serial versions json) = IsLine (codes "serial") versions json words
AsksFor words Print = words ≡ codes "print" ∷ []
AsksFor words (Check versions) = IsLine (codes "check") versions false words
AsksFor words (Make number) = (text : List ℕ) × (words ≡ codes "make" ∷ text ∷ []) × IsNumber text × (number ≡ digits_value 10 text)

-- the limit of versions of a command, where it has one, is at most the greatest one
abbrev pub HasFewVersions : Command → Type 0
HasFewVersions (Run versions json) = versions ≤ VERSIONS
HasFewVersions (Replay versions json) = versions ≤ VERSIONS
HasFewVersions (Serial versions json) = versions ≤ VERSIONS
HasFewVersions Print = ⊤
HasFewVersions (Check versions) = versions ≤ VERSIONS
HasFewVersions (Make number) = ⊤

-- how words are read: as the command that they ask for, refused exactly where they ask for none, or not for want of memory
abbrev pub ReadsWords : List (List ℕ) → Result Command WordsFault → Type 0
ReadsWords words (Ok command) = AsksFor words command
ReadsWords words (Err Refused) = (command : Command) → AsksFor words command → ⊥
ReadsWords words (Err Memory) = ⊤
