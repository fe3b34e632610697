-- Why a schedule is not replayed.
use Rattle.std.specs.Prelude.{ℕ, Option, Some, None}
use Rattle.replay_run.specs.declared.fault.ReplayFault.{ReplayFault}
use Rattle.replay_run.specs.declared.fault.ReplayFault.TheVariants.{ScheduleNumber, Memory}

-- the place that a fault names in the schedule; want of memory names none
abbrev pub place_of : ReplayFault → Option ℕ
place_of (ScheduleNumber place) = Some place
place_of Memory = None
