use Rattle.std.proofs.Common.{arith, ◌+◌, ◌-◌, ◌++◌, ap, ◌∙◌}
use Rattle.separate_decks.specs.Workload.{threads}
use Rattle.deck_maker.proofs.Steps.{thread_next, threads_end}
use Rattle.deck_maker.proofs.calling.scripts.Goals as goal

pub loop-thread-preserved : goal.loop-thread-preserved
loop-thread-preserved c =
    ap (λ done. done ++ threads (c.loop-thread.thread + 1) (8 - (c.loop-thread.thread + 1)) c.calls.new.draws) c.in_ok-push.ensures.ok
    ∙ thread_next c.loop-thread.thread c.loop-thread.draws c.calls.new.draws c.loop-thread.scripts _ c.in_ok-calls.field-0 c.loop-thread-test.true c.loop-thread.invariant
    c.in_ok-calls.ensures.calls c.in_ok-calls.ensures.state

pub returns : goal.returns
returns c = threads_end c.loop-thread.thread c.loop-thread.draws c.loop-thread.scripts _ (omega (arith, c.loop-thread-test.false)) c.loop-thread.invariant
