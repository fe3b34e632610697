-- What each command reads, what its input says, and why input is refused.
use Rattle.std.specs.Prelude.{◌≡◌, ◌≢◌, ℕ, ◌+◌, ◌<◌, ◌≤◌, ◌^◌, ⊤, List, [], length, take, Option, Some, None}
use Rattle.script_tree.specs.declared.limits.TheConstants.{DECK_BYTES}
use Rattle.deck_text.specs.declared.fault.DeckFault.TheVariants.{Memory}
use Rattle.deck_text.specs.Reasons.{IsDeckFault}
use Rattle.deck_text.specs.Spelled.{SpellsDeck}
use Rattle.deck_text.specs.Decks.{Decked}
use Rattle.report_text.specs.declared.data.Report.{Report}
use Rattle.report_text.specs.Printed.{printed, IsReport, Stops}
use Rattle.replay_run.specs.Input.{deck_text, schedule_text}
use Rattle.replay_run.specs.Schedule.{schedule_of, first_unnamed}
use Rattle.command_words.specs.declared.command.Command.{Command}
use Rattle.command_words.specs.declared.command.Command.TheVariants.{Run, Replay, Serial, Print, Check, Make}
use Rattle.framesweep_cli.specs.declared.input.Input.{Input}
use Rattle.framesweep_cli.specs.declared.limits.TheConstants.{SCHEDULED_BYTES, REPORTED_BYTES}
use Rattle.framesweep_cli.specs.declared.reading.Reading.{Reading}
use Rattle.framesweep_cli.specs.declared.reading.Reading.TheVariants.{Deck, Scheduled, Reported}
use Rattle.framesweep_cli.specs.declared.fault.InputFault.{InputFault}
use Rattle.framesweep_cli.specs.declared.fault.InputFault.TheVariants as fault

-- what a command reads, if it reads anything
abbrev pub reading_of : Command → Option Reading
reading_of (Run versions json) = Some Deck
reading_of (Replay versions json) = Some Scheduled
reading_of (Serial versions json) = Some Deck
reading_of Print = Some Deck
reading_of (Check versions) = Some Reported
reading_of (Make number) = None

-- how many bytes that may have
abbrev pub most_bytes : Reading → ℕ
most_bytes Deck = DECK_BYTES
most_bytes Scheduled = SCHEDULED_BYTES
most_bytes Reported = REPORTED_BYTES

-- the bytes are what the source had left, where it told that: all of it, or the first ones of an input that is too long
abbrev pub IsInput : Reading → Option (List ℕ) → List ℕ → Type 0
IsInput reading None bytes = ⊤
IsInput reading (Some left) bytes = bytes ≡ take (most_bytes reading + 1) left

-- the text behind the line between a deck and what is read behind it
abbrev pub behind_text : List ℕ → List ℕ
behind_text bytes = schedule_text bytes

-- a text is that of a report which is there
abbrev pub IsReportText : List ℕ → Option Report → Type 0
IsReportText text None = ⊥
IsReportText text (Some report) = (text ≡ printed report) × IsReport report

-- bytes say a deck, and behind it numbers, whatever these name
abbrev pub SaysNumbers : List ℕ → Input → Type 0
SaysNumbers bytes input = (length bytes ≤ SCHEDULED_BYTES) × SpellsDeck (deck_text bytes) input.deck
    × (input.schedule ≡ schedule_of (schedule_text bytes))

-- bytes say an input: a deck, and behind it numbers that all name threads of it, or a report
abbrev pub Spells : Reading → List ℕ → Input → Type 0
Spells Deck bytes input = SpellsDeck bytes input.deck × (input.schedule ≡ [])
Spells Scheduled bytes input = SaysNumbers bytes input × (first_unnamed (length input.deck.scripts) input.schedule ≡ None)
Spells Reported bytes input = (length bytes ≤ REPORTED_BYTES) × SpellsDeck (deck_text bytes) input.deck
    × (input.schedule ≡ []) × IsReportText (behind_text bytes) input.report

-- a report is there that bytes can be, and they are few enough for each of its lines to have a number
abbrev pub HasReport : Option Report → Type 0
HasReport None = ⊥
HasReport (Some report) = IsReport report × (length (printed report) ≤ REPORTED_BYTES)

-- A command that reads so may have this input: there are few numbers, none but where a schedule is read, and a report where one is
-- read.
pub record Suits (reading : Reading) (input : Input) : Type 0 where
  pub few : length input.schedule < 2 ^ 32
  pub none : reading ≢ Scheduled → input.schedule ≡ []
  pub report : reading ≡ Reported → HasReport input.report

-- Bytes are refused, for this fault. Of several the first one is named: they are too many, the deck has a fault, the schedule has
-- a number that names no thread or the report a line that stands in none. A deck that is read alone and has too many bytes is
-- refused by the line that holds the first of these.
abbrev pub IsFault : Reading → List ℕ → InputFault → Type 0
IsFault Deck bytes fault.TooLong = ⊥
IsFault Deck bytes (fault.Deck f) = IsDeckFault bytes f × (f ≢ Memory)
IsFault Deck bytes (fault.ScheduleNumber place) = ⊥
IsFault Deck bytes (fault.ReportLine line) = ⊥
IsFault Scheduled bytes fault.TooLong = SCHEDULED_BYTES < length bytes
IsFault Scheduled bytes (fault.Deck f) = (length bytes ≤ SCHEDULED_BYTES) × IsDeckFault (deck_text bytes) f × (f ≢ Memory)
IsFault Scheduled bytes (fault.ScheduleNumber place) =
    (input : Input) × SaysNumbers bytes input × (first_unnamed (length input.deck.scripts) input.schedule ≡ Some place)
IsFault Scheduled bytes (fault.ReportLine line) = ⊥
IsFault Reported bytes fault.TooLong = REPORTED_BYTES < length bytes
IsFault Reported bytes (fault.Deck f) = (length bytes ≤ REPORTED_BYTES) × IsDeckFault (deck_text bytes) f × (f ≢ Memory)
IsFault Reported bytes (fault.ScheduleNumber place) = ⊥
IsFault Reported bytes (fault.ReportLine line) =
    (length bytes ≤ REPORTED_BYTES) × (deck : Decked) × SpellsDeck (deck_text bytes) deck × Stops (behind_text bytes) line

-- what was read of a source that had this left says so
pub record IsRead (reading : Reading) (left : Option (List ℕ)) (Says : List ℕ → Type 0) : Type 0 where
  pub bytes : List ℕ
  pub given : IsInput reading left bytes
  pub says : Says bytes

-- what is read says this input; where nothing is read any input will do
abbrev pub IsGiven : Option Reading → Option (List ℕ) → Input → Type 0
IsGiven None left input = ⊤
IsGiven (Some reading) left input = IsRead reading left (λ bytes. Spells reading bytes input)

-- what is read is refused for this fault
abbrev pub IsDenied : Option Reading → Option (List ℕ) → InputFault → Type 0
IsDenied None left fault = ⊥
IsDenied (Some reading) left fault = IsRead reading left (λ bytes. IsFault reading bytes fault)

-- a source told what it had left, and that is valid where it is read so; where nothing is read all is valid
abbrev pub IsValid : Option Reading → Option (List ℕ) → Type 0
IsValid None left = ⊤
IsValid (Some reading) None = ⊥
IsValid (Some reading) (Some left) = (input : Input) × Spells reading left input

-- a source told what it had left, and that is refused for this fault where it is read so: all of it, or its first bytes where there
-- are too many
abbrev pub IsInvalid : Option Reading → Option (List ℕ) → InputFault → Type 0
IsInvalid None left fault = ⊥
IsInvalid (Some reading) None fault = ⊥
IsInvalid (Some reading) (Some left) fault = IsFault reading (take (most_bytes reading + 1) left) fault
