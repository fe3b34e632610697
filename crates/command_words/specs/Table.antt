-- The table of commands: for each its word, whether it takes a number, the kinds of options that it has, and what it is with the number
-- and the options that are given; and what words ask for by it.
use Rattle.std.specs.Prelude.{◌≡◌, ℕ, Bool, true, false, ⊤, List, [], ◌∷◌, ◌++◌, codes, Result, Ok, Err}
use Rattle.std.specs.Str.Parse.{digits_value}
use Rattle.command_words.specs.declared.command.Command.{Command}
use Rattle.command_words.specs.declared.command.Command.TheVariants as command
use Rattle.command_words.specs.declared.command.WordsFault.{WordsFault}
use Rattle.command_words.specs.declared.command.WordsFault.TheVariants.{Refused, Memory}
use Rattle.command_words.specs.declared.kinds.Kinds.{Kinds}
use Rattle.command_words.specs.declared.verb.Verb.{Verb}
use Rattle.command_words.specs.declared.verb.Verb.TheVariants as verb
use Rattle.command_words.specs.Words.{IsNumber}
use Rattle.command_words.specs.Options.{Given, AreOptions, versions_in, json_in}

abbrev pub word_of : Verb → List ℕ
word_of verb.Run = codes "run"
word_of verb.Replay = codes "replay"
word_of verb.Serial = codes "serial"
word_of verb.Print = codes "print"
word_of verb.Check = codes "check"
word_of verb.Make = codes "make"

-- whether it takes a number
abbrev pub takes_number : Verb → Bool
takes_number verb.Make = true
takes_number other = false

abbrev pub kinds_of : Verb → Kinds
kinds_of verb.Run = record { json = true; versions = true }
kinds_of verb.Replay = record { json = true; versions = true }
kinds_of verb.Serial = record { json = true; versions = true }
kinds_of verb.Print = record { json = false; versions = false }
kinds_of verb.Check = record { json = false; versions = true }
kinds_of verb.Make = record { json = false; versions = false }

abbrev pub asked : Verb → ℕ → ℕ → Bool → Command
asked verb.Run number versions json = command.Run versions json
asked verb.Replay number versions json = command.Replay versions json
asked verb.Serial number versions json = command.Serial versions json
asked verb.Print number versions json = command.Print
asked verb.Check number versions json = command.Check versions
asked verb.Make number versions json = command.Make number

-- words are the operand of a command, which says this number: one word for `make`; else none, and 0 stands for none
abbrev pub IsOperand : Verb → List (List ℕ) → ℕ → Type 0
IsOperand verb.Make words number = (text : List ℕ) × (words ≡ text ∷ []) × IsNumber text × (number ≡ digits_value 10 text)
IsOperand other words number = (words ≡ []) × (number ≡ 0)

-- words are the word of a command, its operand and its options, which are those of the command
pub record AsksByTable (words : List (List ℕ)) (command : Command) : Type 0 where
  pub verb : Verb
  pub operand : List (List ℕ)
  pub number : ℕ
  pub options : List (List ℕ)
  pub given : List Given
  pub words_are : words ≡ word_of verb ∷ (operand ++ options)
  pub takes : IsOperand verb operand number
  pub are : AreOptions (kinds_of verb) given options
  pub command_is : command ≡ asked verb number (versions_in given) (json_in given)

-- how words are read by it
abbrev pub ReadsByTable : List (List ℕ) → Result Command WordsFault → Type 0
ReadsByTable words (Ok command) = AsksByTable words command
ReadsByTable words (Err Refused) = (command : Command) → AsksByTable words command → ⊥
ReadsByTable words (Err Memory) = ⊤
