use Rattle.std.proofs.Common.{◌≡◌, ◌-◌, ◌++◌}
use Rattle.separate_decks.specs.Workload.{threads}
use Rattle.deck_maker.proofs.calling.scripts.Given as goal

-- the threads that are still to be made come behind those that were
abbrev pub invariant-loop-thread : goal.invariant-loop-thread
invariant-loop-thread l = l.scripts ++ threads l.thread (8 - l.thread) l.draws ≡ threads 0 8 l.initial.draws
