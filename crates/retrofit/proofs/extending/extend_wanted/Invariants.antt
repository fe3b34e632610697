use Rattle.std.proofs.Common.{◌≡◌, drop}
use Rattle.retrofit.specs.Telling.{with_calls}
use Rattle.retrofit.proofs.Tells.{told_rest}
use Rattle.retrofit.proofs.extending.extend_wanted.Given as goal

abbrev pub invariant-loop-index : goal.invariant-loop-index
invariant-loop-index l = (told_rest l.node (drop l.index l.candidate_list.entries) l.book.book.calls ≡ told_rest l.node (drop l.initial.index l.candidate_list.entries) l.initial.book.book.calls) × (l.book ≡ with_calls l.initial.book l.book.book.calls)
