use Rattle.std.proofs.Common.{◌≡◌, ◌≤◌, length, take}
use Rattle.report_check.specs.Right.{log_of}
use Rattle.report_check.specs.Standing.{Stands}
use Rattle.report_check.specs.Stopping.{AreRightCalls}
use Rattle.report_check.proofs.checking.check_lines.Given as goal

abbrev pub invariant-loop-place : goal.invariant-loop-place
invariant-loop-place l = (l.pass.made ≡ l.made) × (l.place ≤ length l.lines)
    × AreRightCalls l.deck.graph l.deck.scripts l.made l.lines l.place
    × Stands l.deck.graph l.deck.scripts l.made l.pass.machine l.pass.seats.items l.pass.marks.items (log_of l.deck.graph l.deck.scripts (take l.place l.lines))
