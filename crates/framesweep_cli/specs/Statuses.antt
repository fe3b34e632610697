-- How a run of the program ends: its status, and what it leaves on its devices.
use Rattle.std.specs.Prelude.{◌≡◌, ℕ, IsTrue, ⊤, ◌⊎◌, List, Option, Some, None, Result, Ok, Err}
use Rattle.fs_io.specs.States.{SourceState, SinkState}
use Rattle.fs_io.specs.Bytes.{Adds, AddsFirst}
use Rattle.fs_io.specs.Bytes as bytes
use Rattle.fs_io.specs.Count.{Rose}
use Rattle.command_words.specs.declared.command.Command.{Command}
use Rattle.command_words.specs.declared.command.WordsFault.{WordsFault}
use Rattle.command_words.specs.declared.command.WordsFault.TheVariants as words
use Rattle.framesweep_cli.specs.declared.ending.Ending.{Ending}
use Rattle.framesweep_cli.specs.declared.ending.Ending.TheVariants.{Done, Refused, ReadFailed, WriteFailed, OutOfMemory}
use Rattle.framesweep_cli.specs.declared.reading.Reading.{Reading}
use Rattle.framesweep_cli.specs.Devices.{Devices}
use Rattle.framesweep_cli.specs.Inputs.{reading_of, IsDenied}
use Rattle.framesweep_cli.specs.Endings.{Makes}
use Rattle.framesweep_cli.specs.Lines.{words_line, memory_line, line_of}
use Rattle.command_words.specs.Words.{ReadsWords}

abbrev pub status_of : Ending → ℕ
status_of Done = 0
status_of (Refused fault) = 2
status_of ReadFailed = 3
status_of WriteFailed = 4
status_of OutOfMemory = 5

-- a line came on standard error: whole and flushed, or a part of it, for which a write or the flush must have failed
pub record Says (before after : SinkState) (line : List ℕ) : Type 0 where
  pub part : AddsFirst before.held after.held line
  pub whole : (Adds before.held after.held line × IsTrue after.clean) ⊎ Rose before.faults after.faults

-- standard error was given a line, or was let alone where there is none
abbrev pub Tells : SinkState → SinkState → Option (List ℕ) → Type 0
Tells before after None = after ≡ before
Tells before after (Some line) = Says before after line

-- a fact of the source where something is read; a source of which nothing is read was let alone
abbrev pub IfRead : Option Reading → SourceState → SourceState → Type 0 → Type 0
IfRead None before after P = after ≡ before
IfRead (Some reading) before after P = P

-- a read failed
abbrev pub IsReadInVain : Option Reading → SourceState → SourceState → Type 0
IsReadInVain None before after = ⊥
IsReadInVain (Some reading) before after = Rose before.faults after.faults

-- the output grew in this way by what the command makes of the input, and nothing is left of that
pub record Writes (command : Command) (before after : Devices) (Grew : Option (List ℕ) → Option (List ℕ) → List ℕ → Type 0) : Type 0 where
  pub text : List ℕ
  pub made : Makes command before.source.left text
  pub read : IfRead (reading_of command) before.source after.source (bytes.Ends before.source.left after.source.left)
  pub grew : Grew before.out.held after.out.held text

-- What each ending of a command means for the source and the output: all of the text was written and flushed, or its first bytes, or all
-- of them, were written, or no output was begun and it was let alone.
abbrev pub Happened : Command → Devices → Devices → Ending → Type 0
Happened command before after Done = Writes command before after Adds × IsTrue after.out.clean
Happened command before after (Refused fault) = IsDenied (reading_of command) before.source.left fault × (after.out ≡ before.out)
Happened command before after ReadFailed = IsReadInVain (reading_of command) before.source after.source × (after.out ≡ before.out)
Happened command before after WriteFailed = Rose before.out.faults after.out.faults × Writes command before after AddsFirst
Happened command before after OutOfMemory = IfRead (reading_of command) before.source after.source ⊤ × (after.out ≡ before.out)

-- a command ended with this status
pub record Ends (command : Command) (before after : Devices) (status : ℕ) : Type 0 where
  pub ending : Ending
  pub is : status ≡ status_of ending
  pub happened : Happened command before after ending
  pub told : Tells before.err after.err (line_of ending)

-- nothing was read or written but a line on standard error, and the status is this one
pub record Declines (before after : Devices) (line : List ℕ) (expected status : ℕ) : Type 0 where
  pub is : status ≡ expected
  pub unread : after.source ≡ before.source
  pub unwritten : after.out ≡ before.out
  pub told : Says before.err after.err line

-- what comes of how the words were read: refused words end with 1, and nothing else does
abbrev pub Follows : Result Command WordsFault → Devices → Devices → ℕ → Type 0
Follows (Ok command) before after status = Ends command before after status
Follows (Err words.Refused) before after status = Declines before after words_line 1 status
Follows (Err words.Memory) before after status = Declines before after memory_line 5 status

-- words were read, and what they ask for was done
pub record Obeys (words : List (List ℕ)) (before after : Devices) (status : ℕ) : Type 0 where
  pub read_as : Result Command WordsFault
  pub read : ReadsWords words read_as
  pub followed : Follows read_as before after status
