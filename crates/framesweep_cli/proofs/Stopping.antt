-- From what was made to how it ended.
use Rattle.std.proofs.Common.{◌≡◌, ℕ, List, Option, Some, None, Result, Ok, Err, sym, subst, inl, inr}
use Rattle.command_words.specs.declared.command.Command.{Command}
use Rattle.framesweep_cli.specs.declared.ending.Ending.{Ending}
use Rattle.framesweep_cli.specs.declared.ending.Ending.TheVariants.{Done, Refused, ReadFailed, WriteFailed, OutOfMemory}
use Rattle.framesweep_cli.specs.declared.stop.Stop.{Stop}
use Rattle.framesweep_cli.specs.declared.stop.Stop.TheVariants.{Read, Input, Memory}
use Rattle.fs_io.specs.States.{SourceState, SinkState}
use Rattle.framesweep_cli.specs.Devices.{Devices}
use Rattle.framesweep_cli.specs.declared.fault.InputFault.{InputFault}
use Rattle.framesweep_cli.specs.declared.reading.Reading.{Reading}
use Rattle.framesweep_cli.specs.Inputs.{reading_of, IsDenied}
use Rattle.framesweep_cli.specs.Lines.{line_of}
use Rattle.framesweep_cli.specs.Statuses.{status_of, Tells, Happened, Ends}
use Rattle.framesweep_cli.specs.Stops.{MayBeRead, IsStopped, IsMade, IsWritten, EndsAs, Finishes}

-- what is refused was read
denied_read : (reading : Option Reading) (before after : SourceState) (fault : InputFault) → IsDenied reading before.left fault
    → MayBeRead reading before after
denied_read None before after fault denied = absurd denied
denied_read (Some reading) before after fault denied = tt

-- an ending without output
stop_happened : (command : Command) (before after : Devices) (stop : Stop) (ending : Ending) → after.out ≡ before.out
    → IsStopped (reading_of command) before.source after.source stop
    → EndsAs stop ending → Happened command before after ending
stop_happened command before after Read ending alone stopped ends =
    subst (Happened command before after) (sym ends) (stopped, alone)
stop_happened command before after (Input fault) ending alone stopped ends =
    elim ends [
      | inl refused ↦ subst (Happened command before after) (sym refused) (stopped, alone)
      | inr memory ↦ subst (Happened command before after) (sym memory)
          (denied_read (reading_of command) before.source after.source fault stopped, alone)
    ]
stop_happened command before after Memory ending alone stopped ends =
    subst (Happened command before after) (sym ends) (stopped, alone)

-- an ending with output
written_happened : (command : Command) (before after : Devices) (text : List ℕ) (ending : Ending)
    → IsMade command before.source after.source (Ok text) → IsWritten text before.out after.out ending
    → Happened command before after ending
written_happened command before after text Done made written =
    (record { text = text; made = made.0; read = made.1; grew = written.0 }, written.1)
written_happened command before after text (Refused fault) made written = absurd written
written_happened command before after text ReadFailed made written = absurd written
written_happened command before after text WriteFailed made written =
    (written.0, record { text = text; made = made.0; read = made.1; grew = written.1 })
written_happened command before after text OutOfMemory made written = absurd written

happened : (command : Command) (before after : Devices) (made : Result (List ℕ) Stop) (ending : Ending)
    → IsMade command before.source after.source made → Finishes made before.out after.out ending
    → Happened command before after ending
happened command before after (Ok text) ending made finished = written_happened command before after text ending made finished
happened command before after (Err stop) ending made finished = stop_happened command before after stop ending finished.0 made finished.1

-- what was made, and how that was written, is how the command ended
pub made_ends : (command : Command) (s s' : SourceState) (o o' e e' : SinkState) (made : Result (List ℕ) Stop) (ending : Ending)
    (status : ℕ)
    → IsMade command s s' made → Finishes made o o' ending → Tells e e' (line_of ending) → status ≡ status_of ending
    → Ends command (record { source = s; out = o; err = e }) (record { source = s'; out = o'; err = e' }) status
made_ends command s s' o o' e e' made ending status is finished told same = record {
  ending = ending;
  is = same;
  happened = happened command (record { source = s; out = o; err = e })
      (record { source = s'; out = o'; err = e' }) made ending is finished;
  told = told;
}
