use Rattle.std.proofs.Common.{◌≤◌, length, drop}
use Rattle.node_versions.specs.Entries.{AllStop}
use Rattle.node_versions.specs.Answers.{AnswersBy}
use Rattle.node_versions.proofs.list.NodeList.place_from_end.Given as goal

abbrev pub invariant-loop-place : goal.invariant-loop-place
invariant-loop-place g l = (l.place ≤ length l.self.entries) × AnswersBy g.F.Fn l.stops l.self.entries (λ test. AllStop test (drop l.place l.self.entries))

abbrev pub decreases-loop-place : goal.decreases-loop-place
decreases-loop-place g l = l.place
