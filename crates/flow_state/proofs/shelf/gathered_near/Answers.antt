use Rattle.flow_state.proofs.Walks.{gathered_there}
use Rattle.flow_state.proofs.shelf.gathered_near.Goals as goal

pub returns-then-pair-input : goal.returns-then-pair-input
returns-then-pair-input c = gathered_there c.args.gathered.now c.args.input c.args.place _ c.requires c.if-place-gathered.true c.if-pair-input.true
