-- From bytes to what they say.
use Rattle.std.proofs.Common.{◌≡◌, ℕ, zero, suc, drop, ◌+◌, ◌≤◌, Bool, true, false, true≢false, length-append, List, [], ◌∷◌}
use Rattle.std.proofs.Common.{Option, Some, None, length, refl, sym, ap, subst, ◌∙◌, arith}
use Rattle.std.specs.Prelude.{not}
use Rattle.std.specs.List.{slice_split, concat}
use Rattle.std.proofs.lemmas.List.{length-map}
use Rattle.std.proofs.lemmas.List.Sums.{length-filter, count_by-le-length}
use Rattle.std.proofs.lemmas.List.Splits.{length-slice_split}
use Rattle.deck_text.specs.Decks.{Decked}
use Rattle.deck_text.specs.Spelled.{SpellsDeck}
use Rattle.replay_run.specs.Input.{whole_lines, deck_text, schedule_text}
use Rattle.replay_run.specs.Schedule.{schedule_of, words, number_of, is_cut}
use Rattle.flow_model.specs.Machine.Lists.{is_empty}
use Rattle.replay_run.proofs.Dividing.{joined_lines}
use Rattle.report_text.specs.declared.data.Report.{Report}
use Rattle.report_text.specs.Printed.{printed, IsReport}
use Rattle.framesweep_cli.specs.declared.limits.TheConstants.{SCHEDULED_BYTES, REPORTED_BYTES}
use Rattle.framesweep_cli.specs.declared.fault.InputFault.TheVariants as fault
use Rattle.framesweep_cli.specs.declared.input.Input.{Input}
use Rattle.framesweep_cli.specs.declared.reading.Reading.{Reading}
use Rattle.framesweep_cli.specs.declared.reading.Reading.TheVariants.{Deck, Scheduled, Reported}
use Rattle.framesweep_cli.specs.declared.stop.Stop.{Stop}
use Rattle.framesweep_cli.specs.declared.stop.Stop.TheVariants.{Read, Input as Refuses, Memory}
use Rattle.fs_io.specs.States.{SourceState}
use Rattle.framesweep_cli.specs.Inputs.{most_bytes, behind_text, IsInput, IsReportText, HasReport, Spells, Suits}
use Rattle.framesweep_cli.specs.Stops.{Holds, HoldsInput, IsBadDeck, IsBadReport, IsRefused, IsUnread, IsStopped}

pub alone_refused : (bytes : List ℕ) (stop : Stop) → IsBadDeck bytes stop → IsRefused Deck bytes stop
alone_refused bytes Read bad = absurd bad
alone_refused bytes (Refuses fault.TooLong) bad = absurd bad
alone_refused bytes (Refuses (fault.Deck f)) bad = bad
alone_refused bytes (Refuses (fault.ScheduleNumber place)) bad = absurd bad
alone_refused bytes (Refuses (fault.ReportLine line)) bad = absurd bad
alone_refused bytes Memory bad = tt

pub scheduled_refused : (bytes : List ℕ) (stop : Stop) → length bytes ≤ SCHEDULED_BYTES → IsBadDeck (deck_text bytes) stop
    → IsRefused Scheduled bytes stop
scheduled_refused bytes Read short bad = absurd bad
scheduled_refused bytes (Refuses fault.TooLong) short bad = absurd bad
scheduled_refused bytes (Refuses (fault.Deck f)) short bad = (short, bad.0, bad.1)
scheduled_refused bytes (Refuses (fault.ScheduleNumber place)) short bad = absurd bad
scheduled_refused bytes (Refuses (fault.ReportLine line)) short bad = absurd bad
scheduled_refused bytes Memory short bad = tt

pub scheduled_bad : (text bytes : List ℕ) (stop : Stop) → text ≡ deck_text bytes → length bytes ≤ SCHEDULED_BYTES → IsBadDeck text stop
    → IsRefused Scheduled bytes stop
scheduled_bad text bytes stop same short bad = scheduled_refused bytes stop short (subst (λ t. IsBadDeck t stop) same bad)

reported_refused : (bytes : List ℕ) (stop : Stop) → length bytes ≤ REPORTED_BYTES → IsBadDeck (deck_text bytes) stop
    → IsRefused Reported bytes stop
reported_refused bytes Read short bad = absurd bad
reported_refused bytes (Refuses fault.TooLong) short bad = absurd bad
reported_refused bytes (Refuses (fault.Deck f)) short bad = (short, bad.0, bad.1)
reported_refused bytes (Refuses (fault.ScheduleNumber place)) short bad = absurd bad
reported_refused bytes (Refuses (fault.ReportLine line)) short bad = absurd bad
reported_refused bytes Memory short bad = tt

pub reported_bad : (text bytes : List ℕ) (stop : Stop) → text ≡ deck_text bytes → length bytes ≤ REPORTED_BYTES → IsBadDeck text stop
    → IsRefused Reported bytes stop
reported_bad text bytes stop same short bad = reported_refused bytes stop short (subst (λ t. IsBadDeck t stop) same bad)

-- a deck with no report behind it
unreported : (bytes : List ℕ) (deck : Decked) (stop : Stop) → length bytes ≤ REPORTED_BYTES → SpellsDeck (deck_text bytes) deck
    → IsBadReport (behind_text bytes) stop → IsRefused Reported bytes stop
unreported bytes deck Read short spells bad = absurd bad
unreported bytes deck (Refuses fault.TooLong) short spells bad = absurd bad
unreported bytes deck (Refuses (fault.Deck f)) short spells bad = absurd bad
unreported bytes deck (Refuses (fault.ScheduleNumber place)) short spells bad = absurd bad
unreported bytes deck (Refuses (fault.ReportLine line)) short spells bad = (short, deck, spells, bad)
unreported bytes deck Memory short spells bad = tt

pub report_bad : (text behind bytes : List ℕ) (deck : Decked) (stop : Stop) → text ≡ deck_text bytes → behind ≡ schedule_text bytes
    → length bytes ≤ REPORTED_BYTES → SpellsDeck text deck → IsBadReport behind stop → IsRefused Reported bytes stop
report_bad text behind bytes deck stop same after short spells bad =
    unreported bytes deck stop short (subst (λ (t : List ℕ). SpellsDeck t deck) same spells) (subst (λ t. IsBadReport t stop) after bad)

-- input that was refused
pub refused_stops : (reading : Reading) (before after : SourceState) (bytes : List ℕ) (stop : Stop) → IsInput reading before.left bytes
    → IsRefused reading bytes stop → IsStopped (Some reading) before after stop
refused_stops reading before after bytes Read given refused = absurd refused
refused_stops reading before after bytes (Refuses f) given refused = record { bytes = bytes; given = given; says = refused }
refused_stops reading before after bytes Memory given refused = tt

-- input that was not read
pub unread_stops : (reading : Reading) (before after : SourceState) (stop : Stop) → IsUnread before.faults after.faults stop
    → IsStopped (Some reading) before after stop
unread_stops reading before after Read unread = unread
unread_stops reading before after (Refuses f) unread = absurd unread
unread_stops reading before after Memory unread = tt

-- what holds is within the limit
pub holds_short : (reading : Reading) (bytes : List ℕ) (input : Input) → Holds reading bytes input → length bytes ≤ most_bytes reading
holds_short Deck bytes input holds = holds.0.short
holds_short Scheduled bytes input holds = holds.0
holds_short Reported bytes input holds = holds.0

pub spells_short : (reading : Reading) (bytes : List ℕ) (input : Input) → Spells reading bytes input → length bytes ≤ most_bytes reading
spells_short Deck bytes input spells = spells.0.short
spells_short Scheduled bytes input spells = spells.0.0
spells_short Reported bytes input spells = spells.0

-- the numbers of a schedule are at most one more than its bytes

drop_shorter : (n : ℕ) (lines : List (List ℕ)) → length (concat (drop n lines)) ≤ length (concat lines)
drop_shorter zero lines = omega arith
drop_shorter (suc n) [] = omega arith
drop_shorter (suc n) (x ∷ xs) = omega (arith, drop_shorter n xs, length-append x (concat xs))

text_shorter : (bytes : List ℕ) → length (schedule_text bytes) ≤ length bytes
text_shorter bytes = subst (λ (t : List ℕ). length (schedule_text bytes) ≤ length t) (joined_lines bytes)
    (drop_shorter _ (whole_lines bytes))

-- so is a report
pub behind_short : (text bytes : List ℕ) → text ≡ schedule_text bytes → length bytes ≤ REPORTED_BYTES → length text ≤ REPORTED_BYTES
behind_short text bytes same short = omega (arith, ap length same, text_shorter bytes, short)

few_numbers : (text : List ℕ) → length (schedule_of text) ≤ length text + 1
few_numbers text =
    omega (
      arith,
      length-map (words text) number_of,
      length-filter (λ (word : List ℕ). not (is_empty word)) (slice_split is_cut text),
      count_by-le-length (λ (word : List ℕ). not (is_empty word))
          (slice_split is_cut text),
      length-slice_split is_cut text,
      count_by-le-length is_cut text,
    )

abbrev is_reported : Reading → Bool
is_reported Deck = false
is_reported Scheduled = false
is_reported Reported = true

has_report : (text : List ℕ) (report : Option Report) → length text ≤ REPORTED_BYTES → IsReportText text report → HasReport report
has_report text None short is = absurd is
has_report text (Some report) short is = (is.1, omega (arith, ap length is.0, short))

holds_suits : (reading : Reading) (bytes : List ℕ) (input : Input) → Holds reading bytes input → Suits reading input
holds_suits Deck bytes input holds = record {
  few = omega (arith, ap length holds.1);
  none = λ _. holds.1;
  report = λ e. absurd (true≢false (sym (ap is_reported e)));
}
holds_suits Scheduled bytes input holds = record {
  few = omega (arith, ap length holds.2, few_numbers (schedule_text bytes), text_shorter bytes, holds.0);
  none = λ other. absurd (other refl);
  report = λ e. absurd (true≢false (sym (ap is_reported e)));
}
holds_suits Reported bytes input holds = record {
  few = omega (arith, ap length holds.2);
  none = λ _. holds.2;
  report = λ _. has_report (behind_text bytes) input.report (behind_short (behind_text bytes) bytes refl holds.0) holds.3;
}

pub suits : (reading : Reading) (left : Option (List ℕ)) (input : Input) → HoldsInput reading left input → Suits reading input
suits reading left input h = holds_suits reading h.bytes input h.holds

-- the deck and the schedule of an input, by the texts that it is cut into
pub scheduled_holds : (text numbers bytes : List ℕ) (deck : Decked) (schedule : List ℕ) → text ≡ deck_text bytes
    → numbers ≡ schedule_text bytes → length bytes ≤ SCHEDULED_BYTES
    → SpellsDeck text deck → schedule ≡ schedule_of numbers → (length bytes ≤ SCHEDULED_BYTES) × SpellsDeck (deck_text bytes) deck
    × (schedule ≡ schedule_of (schedule_text bytes))
scheduled_holds text numbers bytes deck schedule same behind short spells read =
    (short, subst (λ (t : List ℕ). SpellsDeck t deck) same spells, read ∙ ap schedule_of behind)

-- the deck and the report of an input
pub reported_holds : (text behind bytes : List ℕ) (deck : Decked) (report : Report) → text ≡ deck_text bytes
    → behind ≡ schedule_text bytes → length bytes ≤ REPORTED_BYTES → SpellsDeck text deck
    → behind ≡ printed report → IsReport report → Holds Reported bytes (record { deck = deck; schedule = []; report = Some report })
reported_holds text behind bytes deck report same after short spells read is =
    (short, subst (λ (t : List ℕ). SpellsDeck t deck) same spells, refl, (sym after ∙ read, is))

pub held : (reading : Reading) (left : Option (List ℕ)) (bytes : List ℕ) (input : Input) → IsInput reading left bytes
    → Holds reading bytes input → HoldsInput reading left input
held reading left bytes input given holds = record { bytes = bytes; given = given; holds = holds }

pub ruleset scheduled_laws = (scheduled_bad, scheduled_holds)

pub ruleset reported_laws = (reported_bad, report_bad, behind_short, reported_holds)

pub ruleset input_laws = (refused_stops, unread_stops, holds_short, held)
