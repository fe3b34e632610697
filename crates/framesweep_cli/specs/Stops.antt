-- Why there is no output, and how a command ends.
use Rattle.std.specs.Prelude.{◌≡◌, ◌≢◌, ℕ, IsTrue, ⊤, ◌⊎◌, length, List, Option, Some, None, Result, Ok, Err}
use Rattle.fs_io.specs.States.{SourceState, SinkState}
use Rattle.fs_io.specs.Bytes.{Ends, Adds, AddsFirst}
use Rattle.fs_io.specs.Count.{Rose}
use Rattle.command_words.specs.declared.command.Command.{Command}
use Rattle.deck_text.specs.declared.fault.DeckFault.TheVariants as deck
use Rattle.deck_text.specs.Reasons.{IsDeckFault}
use Rattle.report_text.specs.Printed.{Stops}
use Rattle.replay_run.specs.Schedule.{first_unnamed}
use Rattle.framesweep_cli.specs.declared.ending.Ending.{Ending}
use Rattle.framesweep_cli.specs.declared.ending.Ending.TheVariants.{Done, Refused, ReadFailed, WriteFailed, OutOfMemory}
use Rattle.framesweep_cli.specs.declared.fault.InputFault.TheVariants as fault
use Rattle.framesweep_cli.specs.declared.reading.Reading.{Reading}
use Rattle.framesweep_cli.specs.declared.reading.Reading.TheVariants.{Deck, Scheduled, Reported}
use Rattle.framesweep_cli.specs.declared.stop.Stop.{Stop}
use Rattle.framesweep_cli.specs.declared.stop.Stop.TheVariants.{Read, Input as Refuses, Memory}
use Rattle.framesweep_cli.specs.declared.input.Input.{Input}
use Rattle.framesweep_cli.specs.Inputs.{reading_of, IsInput, SaysNumbers, Spells, IsFault, IsDenied}
use Rattle.framesweep_cli.specs.Endings.{Makes}
use Rattle.framesweep_cli.specs.Statuses.{IfRead, IsReadInVain}

-- bytes say a deck and what stands behind it, whatever numbers name
abbrev pub Holds : Reading → List ℕ → Input → Type 0
Holds Deck bytes input = Spells Deck bytes input
Holds Scheduled bytes input = SaysNumbers bytes input
Holds Reported bytes input = Spells Reported bytes input

-- the input is read, and holds this
pub record HoldsInput (reading : Reading) (left : Option (List ℕ)) (input : Input) : Type 0 where
  pub bytes : List ℕ
  pub given : IsInput reading left bytes
  pub holds : Holds reading bytes input

-- the schedule names no thread that the deck has not
abbrev pub IsNamed : Input → Type 0
IsNamed input = first_unnamed (length input.deck.scripts) input.schedule ≡ None

-- why bytes are not read as a deck: they are refused, or there was no memory
abbrev pub IsBadDeck : List ℕ → Stop → Type 0
IsBadDeck bytes Read = ⊥
IsBadDeck bytes (Refuses fault.TooLong) = ⊥
IsBadDeck bytes (Refuses (fault.Deck f)) = IsDeckFault bytes f × (f ≢ deck.Memory)
IsBadDeck bytes (Refuses (fault.ScheduleNumber place)) = ⊥
IsBadDeck bytes (Refuses (fault.ReportLine line)) = ⊥
IsBadDeck bytes Memory = ⊤

-- why bytes are not read as a report: they stop to be one, or there was no memory
abbrev pub IsBadReport : List ℕ → Stop → Type 0
IsBadReport bytes Read = ⊥
IsBadReport bytes (Refuses fault.TooLong) = ⊥
IsBadReport bytes (Refuses (fault.Deck f)) = ⊥
IsBadReport bytes (Refuses (fault.ScheduleNumber place)) = ⊥
IsBadReport bytes (Refuses (fault.ReportLine line)) = Stops bytes line
IsBadReport bytes Memory = ⊤

-- why bytes say nothing that is read: they are refused, or there was no memory
abbrev pub IsRefused : Reading → List ℕ → Stop → Type 0
IsRefused reading bytes Read = ⊥
IsRefused reading bytes (Refuses f) = IsFault reading bytes f
IsRefused reading bytes Memory = ⊤

-- why input is not read: a read failed, so the count of faults rose, or there was no memory
abbrev pub IsUnread : ℕ → ℕ → Stop → Type 0
IsUnread before after Read = Rose before after
IsUnread before after (Refuses f) = ⊥
IsUnread before after Memory = ⊤

-- why a schedule is not replayed: this number of it names no thread, or there was no memory
abbrev pub IsUnnamed : Input → Stop → Type 0
IsUnnamed input Read = ⊥
IsUnnamed input (Refuses fault.TooLong) = ⊥
IsUnnamed input (Refuses (fault.Deck f)) = ⊥
IsUnnamed input (Refuses (fault.ScheduleNumber place)) = first_unnamed (length input.deck.scripts) input.schedule ≡ Some place
IsUnnamed input (Refuses (fault.ReportLine line)) = ⊥
IsUnnamed input Memory = ⊤

-- nothing is left of what was read to its end
abbrev pub IsReadWhole : Option Reading → SourceState → SourceState → Type 0
IsReadWhole reading before after = IfRead reading before after (Ends before.left after.left)

-- something may have been read
abbrev pub MayBeRead : Option Reading → SourceState → SourceState → Type 0
MayBeRead reading before after = IfRead reading before after ⊤

-- why nothing is made of the input
abbrev pub IsStopped : Option Reading → SourceState → SourceState → Stop → Type 0
IsStopped reading before after Read = IsReadInVain reading before after
IsStopped reading before after (Refuses f) = IsDenied reading before.left f
IsStopped reading before after Memory = MayBeRead reading before after

-- what was made of the input, which was read whole, or why nothing was
abbrev pub IsMade : Command → SourceState → SourceState → Result (List ℕ) Stop → Type 0
IsMade command before after (Ok text) = Makes command before.left text × IsReadWhole (reading_of command) before after
IsMade command before after (Err stop) = IsStopped (reading_of command) before after stop

-- how a stop ends; a fault's line takes memory
abbrev pub EndsAs : Stop → Ending → Type 0
EndsAs Read ending = ending ≡ ReadFailed
EndsAs (Refuses f) ending = (ending ≡ Refused f) ⊎ (ending ≡ OutOfMemory)
EndsAs Memory ending = ending ≡ OutOfMemory

-- an output is written whole and flushed, or a part of it, for which a write or the flush must have failed
abbrev pub IsWritten : List ℕ → SinkState → SinkState → Ending → Type 0
IsWritten text before after Done = Adds before.held after.held text × IsTrue after.clean
IsWritten text before after (Refused f) = ⊥
IsWritten text before after ReadFailed = ⊥
IsWritten text before after WriteFailed = Rose before.faults after.faults × AddsFirst before.held after.held text
IsWritten text before after OutOfMemory = ⊥

-- how a command ends by what was made: the output is written, or it is let alone
abbrev pub Finishes : Result (List ℕ) Stop → SinkState → SinkState → Ending → Type 0
Finishes (Ok text) before after ending = IsWritten text before after ending
Finishes (Err stop) before after ending = (after ≡ before) × EndsAs stop ending
