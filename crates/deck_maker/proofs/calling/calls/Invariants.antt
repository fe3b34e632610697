use Rattle.std.proofs.Common.{◌≡◌, ◌-◌, ◌++◌}
use Rattle.separate_decks.specs.Workload.{calls_of, state_after_calls}
use Rattle.deck_maker.proofs.calling.calls.Given as goal

-- the calls that are still to be made come behind those that were, and lead to the state behind all
abbrev pub invariant-loop-made : goal.invariant-loop-made
invariant-loop-made l =
    (l.calls ++ calls_of l.thread (500 - l._made) l.draws ≡ calls_of l.thread 500 l.initial.draws)
    × (state_after_calls (500 - l._made) l.draws ≡ state_after_calls 500 l.initial.draws)
