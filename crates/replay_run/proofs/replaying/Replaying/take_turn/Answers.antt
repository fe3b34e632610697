use Rattle.std.proofs.Common.{◌+◌}
use Rattle.std.proofs.lemmas.Result.{on_ok_weaker}
use Rattle.replay_run.specs.Replaying.{IsTurn}
use Rattle.replay_run.proofs.Seats.{stage-turned}
use Rattle.replay_run.proofs.replaying.Replaying.take_turn.Goals as goal

pub returns-clause-turn : goal.returns-clause-turn
returns-clause-turn c =
    let core = c.self.inside.core in
    let x = c.index_mut-caller.result.now in
    let q = c.take_turn.new.core in
    let y = c.take_turn.new.caller in
    on_ok_weaker c.take_turn.result (λ (turn : IsTurn core.graph (c.args.thread + 1) core.state x.thread q.state y.thread).
    stage-turned core.graph q.graph c.args.thread core.state q.state c.self.inside.callers.items x y c.args.self.now c.self.view_is c.requires c.index_mut-caller.ensures.value c.take_turn.ensures.graph turn)
    c.take_turn.ensures.turn
