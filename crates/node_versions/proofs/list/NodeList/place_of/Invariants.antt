use Rattle.std.proofs.Common.{◌≡◌, ℕ, ◌<◌, false, slice_index_or}
use Rattle.node_versions.specs.Entries.{Entry}
use Rattle.node_versions.specs.Answers.{AnswersBy}
use Rattle.node_versions.proofs.list.NodeList.place_of.Given as goal

abbrev pub invariant-loop-index : goal.invariant-loop-index
invariant-loop-index g l = AnswersBy g.F.Fn l.stops l.self.entries (λ test. (k : ℕ) (d : Entry) → k < l.index → test (slice_index_or l.self.entries k d) ≡ false)
