use Rattle.std.proofs.Common.{◌≡◌, ◌≤◌, length, take}
use Rattle.report_check.proofs.refused.first_other_refused.Given as goal

abbrev pub invariant-loop-place : goal.invariant-loop-place
invariant-loop-place l = (l.place ≤ length l.given) × (take l.place l.due ≡ take l.place l.given)
