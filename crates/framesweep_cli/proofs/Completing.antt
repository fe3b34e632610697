-- Which status comes, from what the top call left on its devices.
use Rattle.std.proofs.Common.{◌≡◌, ℕ, ◌+◌, List, Option, Some, None, Result, Ok, Err, refl, sym, subst, ◌∙◌, ap, true≢false, inl, inr}
use Rattle.std.proofs.Common.{arith, ⊎_elim}
use Rattle.std.specs.Prelude.{◌⊎◌, take, length, is_none}
use Rattle.std.proofs.lemmas.List.{take_all}
use Rattle.fs_io.specs.Count.{Rose}
use Rattle.command_words.specs.declared.command.Command.{Command}
use Rattle.command_words.specs.declared.command.WordsFault.{WordsFault}
use Rattle.command_words.specs.declared.command.WordsFault.TheVariants as reading
use Rattle.command_words.specs.Words.{AsksFor, ReadsWords}
use Rattle.deck_text.specs.declared.fault.DeckFault.{DeckFault}
use Rattle.deck_text.specs.declared.fault.DeckFault.TheVariants.{Memory}
use Rattle.deck_text.specs.Decks.{Decked}
use Rattle.deck_text.specs.Spelled.{SpellsDeck}
use Rattle.deck_text.specs.Reasons.{IsDeckFault}
use Rattle.report_text.specs.declared.data.Report.{Report}
use Rattle.report_text.specs.Printed.{printed, IsReport, Stops}
use Rattle.framesweep_cli.specs.declared.ending.Ending.{Ending}
use Rattle.framesweep_cli.specs.declared.ending.Ending.TheVariants.{Done, Refused, ReadFailed, WriteFailed, OutOfMemory}
use Rattle.framesweep_cli.specs.declared.fault.InputFault.{InputFault}
use Rattle.framesweep_cli.specs.declared.fault.InputFault.TheVariants as input
use Rattle.framesweep_cli.specs.declared.input.Input.{Input}
use Rattle.framesweep_cli.specs.declared.reading.Reading.{Reading}
use Rattle.framesweep_cli.specs.declared.reading.Reading.TheVariants as reads
use Rattle.framesweep_cli.specs.Inputs.{reading_of, most_bytes, behind_text, IsReportText, Spells, IsFault, IsGiven}
use Rattle.framesweep_cli.specs.Inputs.{IsDenied, IsValid, IsInvalid}
use Rattle.framesweep_cli.specs.Endings.{Makes}
use Rattle.framesweep_cli.proofs.Judging.{spells_short}
use Rattle.replay_run.specs.Input.{deck_text}
use Rattle.replay_run.specs.Schedule.{first_unnamed}
use Rattle.fs_io.specs.States.{SourceState}
use Rattle.framesweep_cli.specs.Devices.{Devices}
use Rattle.framesweep_cli.specs.Lines.{memory_line}
use Rattle.framesweep_cli.specs.Statuses.{status_of, IsReadInVain, Happened, Ends, Declines, Follows, Obeys}

-- words ask for one command
abbrev pub OneCommand : Type 0
OneCommand = (words : List (List ℕ)) (a b : Command) → AsksFor words a → AsksFor words b → a ≡ b

-- what words ask for is done, where there is memory to read them
pub is_done : OneCommand → (words : List (List ℕ)) (command : Command) (before after : Devices) (status : ℕ)
    → Obeys words before after status → AsksFor words command → Ends command before after status
    ⊎ Declines before after memory_line 5 status
is_done only words command before after status o asks = from o.read_as o.read o.followed
  where
    from : (r : Result Command WordsFault) → ReadsWords words r → Follows r before after status → Ends command before after status
        ⊎ Declines before after memory_line 5 status
    from (Ok c) read f = inl (subst (λ (d : Command). Ends d before after status) (only words c command read asks) f)
    from (Err reading.Refused) read f = absurd (read command asks)
    from (Err reading.Memory) read f = inr f

-- a text that spells a deck has no fault but want of memory
abbrev pub OneAnswer : Type 0
OneAnswer = (bytes : List ℕ) (deck : Decked) (fault : DeckFault) → SpellsDeck bytes deck → IsDeckFault bytes fault → fault ≡ Memory

-- bytes spell one deck
abbrev pub OneDeck : Type 0
OneDeck = (bytes : List ℕ) (a b : Decked) → SpellsDeck bytes a → SpellsDeck bytes b → a ≡ b

-- the text of a report stops at no line to be one
abbrev pub Whole : Type 0
Whole = (report : Report) (line : ℕ) → IsReport report → ¬ Stops (printed report) line

abbrev pub Answers : Type 0
Answers = OneAnswer × OneDeck × Whole

-- a text that is that of a report
not_stopped : Whole → (text : List ℕ) (report : Option Report) (line : ℕ) → IsReportText text report → Stops text line → ⊥
not_stopped whole text None line is stops = absurd is
not_stopped whole text (Some report) line is stops = whole report line is.1 (subst (λ (t : List ℕ). Stops t line) is.0 stops)

-- numbers that all name a thread, and of which one names none
not_both : (a b : Input) (place : ℕ) → a.deck ≡ b.deck → a.schedule ≡ b.schedule → first_unnamed (length a.deck.scripts) a.schedule ≡ None
    → first_unnamed (length b.deck.scripts) b.schedule ≡ Some place → ⊥
not_both a b place decks schedules named unnamed =
    let same = ap (λ (d : Decked). first_unnamed (length d.scripts) a.schedule) decks
    ∙ ap (first_unnamed (length b.deck.scripts)) schedules in
    true≢false (ap is_none (sym named ∙ same ∙ unnamed))

-- what says an input has no fault
no_fault : Answers → (reading : Reading) (bytes : List ℕ) (said : Input) (fault : InputFault) → Spells reading bytes said
    → IsFault reading bytes fault → ⊥
no_fault one reads.Deck bytes said input.TooLong spells is = absurd is
no_fault one reads.Deck bytes said (input.Deck f) spells is = is.1 (one.0 bytes said.deck f spells.0 is.0)
no_fault one reads.Deck bytes said (input.ScheduleNumber place) spells is = absurd is
no_fault one reads.Deck bytes said (input.ReportLine line) spells is = absurd is
no_fault one reads.Scheduled bytes said (input.ReportLine line) spells is = absurd is
no_fault one reads.Reported bytes said input.TooLong spells is = absurd (omega (arith, is, spells.0))
no_fault one reads.Reported bytes said (input.Deck f) spells is = is.2 (one.0 (deck_text bytes) said.deck f spells.1 is.1)
no_fault one reads.Reported bytes said (input.ScheduleNumber place) spells is = absurd is
no_fault one reads.Reported bytes said (input.ReportLine line) spells is =
    not_stopped one.2 (behind_text bytes) said.report line spells.3 is.3
no_fault one reads.Scheduled bytes said input.TooLong spells is = absurd (omega (arith, is, spells.0.0))
no_fault one reads.Scheduled bytes said (input.Deck f) spells is = is.2 (one.0 (deck_text bytes) said.deck f spells.0.1 is.1)
no_fault one reads.Scheduled bytes said (input.ScheduleNumber place) spells is =
    not_both said is.0 place (one.1 (deck_text bytes) said.deck is.0.deck spells.0.1 is.1.1) (spells.0.2
    ∙ sym is.1.2) spells.1 is.2

-- what is read of a source that says an input is all of it
whole : (reading : Reading) (left bytes : List ℕ) (said : Input) → Spells reading left said → bytes ≡ take (most_bytes reading + 1) left
    → bytes ≡ left
whole reading left bytes said spells e = e
    ∙ take_all (most_bytes reading + 1) left (omega (arith, spells_short reading left said spells))

not_refused : Answers → (reading : Option Reading) (left : Option (List ℕ)) (fault : InputFault) → IsValid reading left
    → IsDenied reading left fault → ⊥
not_refused one None left fault valid refused = absurd refused
not_refused one (Some reading) None fault valid refused = absurd valid
not_refused one (Some reading) (Some left) fault valid refused =
    no_fault one reading left valid.0 fault valid.1
    (subst (λ (bytes : List ℕ). IsFault reading bytes fault) (whole reading left refused.bytes valid.0 valid.1 refused.given) refused.says)

-- a read that failed is one that the count of faults shows
vain_rose : (reading : Option Reading) (before after : SourceState) → IsReadInVain reading before after → Rose before.faults after.faults
vain_rose None before after vain = absurd vain
vain_rose (Some reading) before after vain = vain

served : Answers → (command : Command) (before after : Devices) (ending : Ending) → Happened command before after ending
    → IsValid (reading_of command) before.source.left → (Rose before.source.faults after.source.faults → ⊥)
    → (Rose before.out.faults after.out.faults → ⊥) → (status_of ending ≡ 0) ⊎ (status_of ending ≡ 5)
served one command before after Done h valid reads writes = inl refl
served one command before after (Refused fault) h valid reads writes = absurd
    (not_refused one (reading_of command) before.source.left fault valid h.0)
served one command before after ReadFailed h valid reads writes = absurd
    (reads (vain_rose (reading_of command) before.source after.source h.0))
served one command before after WriteFailed h valid reads writes = absurd (writes h.0)
served one command before after OutOfMemory h valid reads writes = inr refl

pub ends_served : Answers → (command : Command) (before after : Devices) (status : ℕ) → Ends command before after status
    → IsValid (reading_of command) before.source.left → (Rose before.source.faults after.source.faults → ⊥)
    → (Rose before.out.faults after.out.faults → ⊥) → (status ≡ 0) ⊎ (status ≡ 5)
ends_served one command before after status ends valid reads writes =
    subst (λ n. (n ≡ 0) ⊎ (n ≡ 5)) (sym ends.is) (served one command before after ends.ending ends.happened valid reads writes)

pub is_served : Answers → OneCommand → (words : List (List ℕ)) (command : Command) (before after : Devices) (status : ℕ)
    → Obeys words before after status → AsksFor words command → IsValid (reading_of command) before.source.left
    → (Rose before.source.faults after.source.faults → ⊥) → (Rose before.out.faults after.out.faults → ⊥) → (status ≡ 0) ⊎ (status ≡ 5)
is_served one only words command before after status o asks valid reads writes =
    ⊎_elim (λ ends. ends_served one command before after status ends valid reads writes) (λ declines. inr declines.is)
    (is_done only words command before after status o asks)

-- what was refused was not made

not_given : Answers → (reading : Option Reading) (left : Option (List ℕ)) (fault : InputFault) (input : Input)
    → IsInvalid reading left fault → IsGiven reading left input → ⊥
not_given one None left fault input invalid given = absurd invalid
not_given one (Some reading) None fault input invalid given = absurd invalid
not_given one (Some reading) (Some left) fault input invalid given =
    no_fault one reading given.bytes input fault given.says
    (subst (λ (bytes : List ℕ). IsFault reading bytes fault) (sym given.given) invalid)

not_made : Answers → (command : Command) (left : Option (List ℕ)) (fault : InputFault) (text : List ℕ)
    → IsInvalid (reading_of command) left fault → Makes command left text → ⊥
not_made one command left fault text invalid made = not_given one (reading_of command) left fault made.input invalid made.given

denied : Answers → (command : Command) (fault : InputFault) (before after : Devices) (ending : Ending)
    → Happened command before after ending → IsInvalid (reading_of command) before.source.left fault
    → (Rose before.source.faults after.source.faults → ⊥) → (status_of ending ≡ 2) ⊎ (status_of ending ≡ 5)
denied one command fault before after Done h invalid reads = absurd (not_made one command before.source.left fault h.0.text invalid h.0.made)
denied one command fault before after (Refused f) h invalid reads = inl refl
denied one command fault before after ReadFailed h invalid reads = absurd
    (reads (vain_rose (reading_of command) before.source after.source h.0))
denied one command fault before after WriteFailed h invalid reads = absurd
    (not_made one command before.source.left fault h.1.text invalid h.1.made)
denied one command fault before after OutOfMemory h invalid reads = inr refl

pub ends_denied : Answers → (command : Command) (fault : InputFault) (before after : Devices) (status : ℕ)
    → Ends command before after status → IsInvalid (reading_of command) before.source.left fault
    → (Rose before.source.faults after.source.faults → ⊥) → (status ≡ 2) ⊎ (status ≡ 5)
ends_denied one command fault before after status ends invalid reads =
    subst (λ n. (n ≡ 2) ⊎ (n ≡ 5)) (sym ends.is) (denied one command fault before after ends.ending ends.happened invalid reads)

pub is_denied : Answers → OneCommand
    → (words : List (List ℕ)) (command : Command) (fault : InputFault) (before after : Devices) (status : ℕ)
    → Obeys words before after status → AsksFor words command → IsInvalid (reading_of command) before.source.left fault
    → (Rose before.source.faults after.source.faults → ⊥) → (status ≡ 2) ⊎ (status ≡ 5)
is_denied one only words command fault before after status o asks invalid reads =
    ⊎_elim (λ ends. ends_denied one command fault before after status ends invalid reads) (λ declines. inr declines.is)
    (is_done only words command before after status o asks)

-- status 2 comes for no valid input

not_two : Answers → (command : Command) (before after : Devices) (ending : Ending) → Happened command before after ending
    → IsValid (reading_of command) before.source.left → status_of ending ≡ 2 → ⊥
not_two one command before after Done h valid e = absurd (omega (arith, e))
not_two one command before after (Refused fault) h valid e = not_refused one (reading_of command) before.source.left fault valid h.0
not_two one command before after ReadFailed h valid e = absurd (omega (arith, e))
not_two one command before after WriteFailed h valid e = absurd (omega (arith, e))
not_two one command before after OutOfMemory h valid e = absurd (omega (arith, e))

pub ends_not_two : Answers → (command : Command) (before after : Devices) (status : ℕ) → Ends command before after status
    → IsValid (reading_of command) before.source.left → status ≡ 2 → ⊥
ends_not_two one command before after status ends valid two = not_two one command before after ends.ending ends.happened valid (sym ends.is
    ∙ two)

pub is_not_two : Answers → OneCommand → (words : List (List ℕ)) (command : Command) (before after : Devices) (status : ℕ)
    → Obeys words before after status → AsksFor words command
    → IsValid (reading_of command) before.source.left → status ≡ 2 → ⊥
is_not_two one only words command before after status o asks valid two =
    ⊎_elim (λ ends. ends_not_two one command before after status ends valid two) (λ declines. absurd (omega (arith, declines.is, two)))
    (is_done only words command before after status o asks)

-- the words

pub is_refused : (words : List (List ℕ)) (before after : Devices) (status : ℕ) → Obeys words before after status
    → ((command : Command) → AsksFor words command → ⊥) → (status ≡ 1) ⊎ (status ≡ 5)
is_refused words before after status o none = from o.read_as o.read o.followed
  where
    from : (r : Result Command WordsFault) → ReadsWords words r → Follows r before after status → (status ≡ 1) ⊎ (status ≡ 5)
    from (Ok c) read f = absurd (none c read)
    from (Err reading.Refused) read f = inl f.is
    from (Err reading.Memory) read f = inr f.is

not_one : (ending : Ending) → status_of ending ≡ 1 → ⊥
not_one Done e = absurd (omega (arith, e))
not_one (Refused fault) e = absurd (omega (arith, e))
not_one ReadFailed e = absurd (omega (arith, e))
not_one WriteFailed e = absurd (omega (arith, e))
not_one OutOfMemory e = absurd (omega (arith, e))

pub is_not_one : (words : List (List ℕ)) (command : Command) (before after : Devices) (status : ℕ) → Obeys words before after status
    → AsksFor words command → status ≡ 1 → ⊥
is_not_one words command before after status o asks one = from o.read_as o.read o.followed
  where
    from : (r : Result Command WordsFault) → ReadsWords words r → Follows r before after status → ⊥
    from (Ok c) read f = not_one f.ending (sym f.is ∙ one)
    from (Err reading.Refused) read f = read command asks
    from (Err reading.Memory) read f = absurd (omega (arith, f.is, one))
