use Rattle.sweeper.proofs.callers.Beds.wake_word.Given as goal

abbrev pub decreases-loop-rest : goal.decreases-loop-rest
decreases-loop-rest l = l.rest
