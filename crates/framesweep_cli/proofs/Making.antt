-- From what was read to what is written.
use Rattle.std.proofs.Common.{◌≡◌, ℕ, Bool, true≢false, List, [], Option, Some, None, Result, Ok, Err, refl, sym, ap, subst, ◌∙◌}
use Rattle.std.specs.Prelude.{length, is_none, IfSome, IfOk, IfErr}
use Rattle.command_words.specs.declared.command.Command.{Command}
use Rattle.command_words.specs.declared.command.Command.TheVariants.{Run, Replay, Serial, Print, Check, Make}
use Rattle.fs_io.specs.Bytes as bytes
use Rattle.replay_run.specs.Schedule.{first_unnamed}
use Rattle.framesweep_cli.specs.declared.fault.InputFault.TheVariants as fault
use Rattle.framesweep_cli.specs.declared.input.Input.{Input}
use Rattle.framesweep_cli.specs.declared.reading.Reading.{Reading}
use Rattle.framesweep_cli.specs.declared.reading.Reading.TheVariants.{Deck, Scheduled, Reported}
use Rattle.framesweep_cli.specs.declared.stop.Stop.{Stop}
use Rattle.framesweep_cli.specs.declared.stop.Stop.TheVariants.{Read, Input as Refuses, Memory}
use Rattle.fs_io.specs.States.{SourceState}
use Rattle.framesweep_cli.specs.Inputs.{reading_of, Spells, IsGiven, Suits}
use Rattle.framesweep_cli.specs.Endings.{IsReport, IsAnyRun, IsAlone, IsOutput}
use Rattle.framesweep_cli.specs.Stops.{Holds, HoldsInput, IsNamed, IsUnnamed, IsReadWhole, IsStopped, IsMade}
use Rattle.framesweep_cli.proofs.Judging.{suits}

-- bytes say an input whose numbers all name threads
spelled : (reading : Reading) (bytes : List ℕ) (input : Input) → Holds reading bytes input → IsNamed input → Spells reading bytes input
spelled Deck bytes input holds named = holds
spelled Scheduled bytes input holds named = (holds, named)
spelled Reported bytes input holds named = holds

-- what was written for an input that was read
pub makes : (command : Command) (reading : Reading) (before after : SourceState) (input : Input) (text : List ℕ)
    → reading_of command ≡ Some reading → HoldsInput reading before.left input → IsNamed input
    → bytes.Ends before.left after.left → IsOutput command input text → IsMade command before after (Ok text)
makes command reading before after input text reads h named emptied output = (
  record {
    input = input;
    given = subst (λ r. IsGiven r before.left input) (sym reads)
        (record { bytes = h.bytes; given = h.given; says = spelled reading h.bytes input h.holds named });
    output = output;
  },
  subst (λ r. IsReadWhole r before after) (sym reads) emptied,
)

-- a schedule that names no thread somewhere is no deck's alone
alone_named : (input : Input) (place : ℕ) → input.schedule ≡ [] → first_unnamed (length input.deck.scripts) input.schedule ≡ Some place → ⊥
alone_named input place none unnamed = absurd (true≢false (ap is_none (sym (ap (first_unnamed (length input.deck.scripts)) none)
    ∙ unnamed)))

-- why a run was not made, for an input that was read
pub unmade : (reading : Reading) (before after : SourceState) (input : Input) (stop : Stop) → HoldsInput reading before.left input
    → IsUnnamed input stop → IsStopped (Some reading) before after stop
unmade reading before after input Read h unnamed = absurd unnamed
unmade reading before after input (Refuses fault.TooLong) h unnamed = absurd unnamed
unmade reading before after input (Refuses (fault.Deck f)) h unnamed = absurd unnamed
unmade reading before after input (Refuses (fault.ReportLine line)) h unnamed = absurd unnamed
unmade Deck before after input (Refuses (fault.ScheduleNumber place)) h unnamed = absurd (alone_named input place h.holds.1 unnamed)
unmade Reported before after input (Refuses (fault.ScheduleNumber place)) h unnamed = absurd (alone_named input place h.holds.2 unnamed)
unmade Scheduled before after input (Refuses (fault.ScheduleNumber place)) h unnamed = record {
  bytes = h.bytes;
  given = h.given;
  says = (input, h.holds, unnamed);
}
unmade reading before after input Memory h unnamed = tt

pub no_numbers : (input : Input) → input.schedule ≡ [] → IsNamed input
no_numbers input none = ap (first_unnamed (length input.deck.scripts)) none

-- what was made of an input by a command that waits for nobody, or why nothing was
pub made_alone : (command : Command) (reading : Reading) (before after : SourceState) (input : Input) (r : Result (List ℕ) Stop)
    → reading_of command ≡ Some reading → HoldsInput reading before.left input → bytes.Ends before.left after.left
    → IfOk r (IsOutput command input) → IfOk r (λ _. IsNamed input) → IfErr r (IsUnnamed input) → IsMade command before after r
made_alone command reading before after input (Ok text) reads h emptied output named unnamed =
    makes command reading before after input text reads h named emptied output
made_alone command reading before after input (Err stop) reads h emptied output named unnamed =
    subst (λ r. IsStopped r before after stop) (sym reads) (unmade reading before after input stop h unnamed)

-- why nothing was made
pub stopped_alone : (command : Command) (reading : Reading) (before after : SourceState) (stop : Stop) → reading_of command ≡ Some reading
    → IsStopped (Some reading) before after stop → IsMade command before after (Err stop)
stopped_alone command reading before after stop reads stopped = subst (λ r. IsStopped r before after stop) (sym reads) stopped

-- a command that waits for nobody reads an input, and what is read suits it
pub alone_reads : (command : Command) → IsAlone command → reading_of command ≡ None → ⊥
alone_reads (Run versions json) alone none = absurd alone
alone_reads (Replay versions json) alone none = absurd (true≢false (sym (ap is_none none)))
alone_reads (Serial versions json) alone none = absurd (true≢false (sym (ap is_none none)))
alone_reads Print alone none = absurd (true≢false (sym (ap is_none none)))
alone_reads (Check versions) alone none = absurd (true≢false (sym (ap is_none none)))
alone_reads (Make number) alone none = absurd alone

pub suits_command : (command : Command) (reading : Reading) (left : Option (List ℕ)) (input : Input) → reading_of command ≡ Some reading
    → HoldsInput reading left input → IfSome (reading_of command) (λ r. Suits r input)
suits_command command reading left input reads h = subst (λ r. IfSome r (λ s. Suits s input)) (sym reads) (suits reading left input h)

pub made_run : (versions : ℕ) (json : Bool) (before after : SourceState) (input : Input) (text : List ℕ)
    → HoldsInput Deck before.left input → bytes.Ends before.left after.left
    → IsReport input.deck versions json IsAnyRun text → IsMade (Run versions json) before after (Ok text)
made_run versions json before after input text h emptied report = makes (Run versions json) Deck before after input text refl h
    (no_numbers input h.holds.1) emptied report

pub ruleset made_laws = (suits_command, alone_reads, stopped_alone, made_alone, made_run)
