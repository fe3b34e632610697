use Rattle.std.proofs.Common.{◌<◌, ◌≤◌, length, ap, ◌∙◌, arith}
use Rattle.std.proofs.lemmas.Grind.{common_steps}
use Rattle.std.proofs.lemmas.List.{length-map}
use Rattle.signal_graph.specs.Graph.{Graph}
use Rattle.flow_model.specs.Machine.Schedules.{take_turn}
use Rattle.replay_run.specs.Replaying.{Stage, stage_of, play_of, Caller}
use Rattle.replay_run.proofs.Stages.{next-in-round, last-in-round}
use Rattle.replay_run.proofs.replaying.Replaying.round.Goals as goal

pub loop-thread-preserved : goal.loop-thread-preserved
loop-thread-preserved c =
    let at = c.loop-thread in
    let i = at.invariant in
    let view = ap (λ (z : Stage). length z.threads) c.self.view_is in
    let many = length-map c.self.inside.callers.items (λ (x : Caller). x.thread) in
    let inside : at.thread < length c.args.self.now.threads = grind (arith, common_steps, view, many) in (
      c.in_ok-take_turn.ensures.graph ∙ i.0,
      c.in_ok-take_turn.ensures.threads ∙ i.1,
      next-in-round c.args.self.now.graph at.self c.take_turn.new.self c.args.self.now.threads at.thread inside
          (c.in_ok-take_turn.ensures.turn ∙ ap (λ (k : Graph). stage_of k (take_turn k (play_of at.self) at.thread)) i.0)
          ∙ i.2,
    )

pub returns-clause-round : goal.returns-clause-round
returns-clause-round c =
    let at = c.loop-thread in
    let view = ap (λ (z : Stage). length z.threads) c.self.view_is in
    let many = length-map c.self.inside.callers.items (λ (x : Caller). x.thread) in
    let all : length c.args.self.now.threads ≤ at.thread = grind (arith, common_steps, view, many) in
    last-in-round c.args.self.now.graph at.self _ c.args.self.now.threads at.thread at.invariant.0 all at.invariant.2
