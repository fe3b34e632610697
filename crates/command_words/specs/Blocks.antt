-- The block with which words begin, and whether words are options at all.
use Rattle.std.specs.Prelude.{◌≡◌, ℕ, ◌≤◌, Bool, ⊤, List, ◌++◌, length, take, Result, Ok, Err}
use Rattle.command_words.specs.declared.command.Command.{Command}
use Rattle.command_words.specs.declared.command.WordsFault.{WordsFault}
use Rattle.command_words.specs.declared.command.WordsFault.TheVariants.{Refused, Memory}
use Rattle.command_words.specs.declared.kinds.Kind.{Kind}
use Rattle.command_words.specs.declared.kinds.Kinds.{Kinds}
use Rattle.command_words.specs.declared.verb.Verb.{Verb}
use Rattle.command_words.specs.Options.{Given, kind_of, IsBlock, AreOptions, AreNoOptions, versions_in, json_in}
use Rattle.command_words.specs.Table.{kinds_of, asked}

-- the first words, so many of them, are the block of an option of this kind
pub record Begins (words : List (List ℕ)) (kind : Kind) (count : ℕ) : Type 0 where
  pub option : Given
  pub of_kind : kind_of option ≡ kind
  pub block : IsBlock option (take count words)
  pub some : 1 ≤ count
  pub within : count ≤ length words

-- no first words are a block
pub record BeginsWithNone (words : List (List ℕ)) : Type 0 where
  pub none : (option : Given) (block rest : List (List ℕ)) → words ≡ block ++ rest → IsBlock option block → ⊥

-- words are some options
pub record AreSome (kinds : Kinds) (words : List (List ℕ)) : Type 0 where
  pub given : List Given
  pub are : AreOptions kinds given words

-- words are options that give these values, or leave them at their defaults
pub record Gives (kinds : Kinds) (words : List (List ℕ)) (versions : ℕ) (json : Bool) : Type 0 where
  pub given : List Given
  pub are : AreOptions kinds given words
  pub versions_are : versions ≡ versions_in given
  pub json_is : json ≡ json_in given

-- options behind a command's word and its number ask for the command
pub record AsksByOptions (verb : Verb) (number : ℕ) (options : List (List ℕ)) (command : Command) : Type 0 where
  pub given : List Given
  pub are : AreOptions (kinds_of verb) given options
  pub command_is : command ≡ asked verb number (versions_in given) (json_in given)

-- how they are read: as the command that they ask for, refused exactly where they are no options, or not for want of memory
abbrev pub ReadsOptions : Verb → ℕ → List (List ℕ) → Result Command WordsFault → Type 0
ReadsOptions verb number options (Ok command) = AsksByOptions verb number options command
ReadsOptions verb number options (Err Refused) = AreNoOptions (kinds_of verb) options
ReadsOptions verb number options (Err Memory) = ⊤
