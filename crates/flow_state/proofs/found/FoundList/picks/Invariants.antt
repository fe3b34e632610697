use Rattle.std.proofs.Common.{◌≡◌, take}
use Rattle.flow_state.proofs.FoundPicks.{picks_for}
use Rattle.flow_state.proofs.found.FoundList.picks.Given as goal

abbrev pub invariant-loop-index : goal.invariant-loop-index
invariant-loop-index l = l.picks ≡ picks_for (take l.index l.self)
