use Rattle.std.proofs.Common.{arith, ◌+◌, ◌-◌, ◌++◌, ap, ◌∙◌}
use Rattle.separate_decks.specs.Workload.{calls_of}
use Rattle.deck_maker.proofs.Steps.{call_next, call_state_next, calls_end, call_state_end}
use Rattle.deck_maker.proofs.calling.calls.Goals as goal

pub loop-made-preserved : goal.loop-made-preserved
loop-made-preserved c = (
  ap (λ done. done ++ calls_of c.args.thread (500 - (c.loop-made._made + 1)) c.call.new.draws) c.in_ok-push.ensures.ok
      ∙ call_next c.args.thread 500 c.loop-made._made c.loop-made.draws c.call.new.draws c.loop-made.calls _ c.in_ok-call.field-0 c.loop-made-test.true c.loop-made.invariant.0
      c.in_ok-call.ensures.call c.call.ensures.state,
  call_state_next 500 c.loop-made._made c.loop-made.draws c.call.new.draws _ c.loop-made-test.true c.loop-made.invariant.1 c.call.ensures.state,
)

pub returns-clause-calls : goal.returns-clause-calls
returns-clause-calls c = calls_end c.args.thread c.loop-made._made c.loop-made.draws c.loop-made.calls _ (omega (arith, c.loop-made-test.false)) c.loop-made.invariant.0

pub returns-clause-state : goal.returns-clause-state
returns-clause-state c = call_state_end c.loop-made._made c.loop-made.draws _ (omega (arith, c.loop-made-test.false)) c.loop-made.invariant.1
