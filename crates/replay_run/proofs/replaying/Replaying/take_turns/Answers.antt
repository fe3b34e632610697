use Rattle.std.proofs.Common.{◌-◌, get_or, refl, ap, ◌∙◌}
use Rattle.signal_graph.specs.Graph.{Graph}
use Rattle.flow_model.specs.Machine.Schedules.{take_turn}
use Rattle.replay_run.specs.Replaying.{stage_of, play_of}
use Rattle.replay_run.proofs.Stages.{next-turn, last-turn}
use Rattle.replay_run.proofs.Unnamed.{number-some}
use Rattle.replay_run.proofs.replaying.Replaying.take_turns.Goals as goal

pub loop-number-preserved : goal.loop-number-preserved
loop-number-preserved c =
    let at = c.loop-number in
    let i = at.invariant in
    let n = get_or c.args.schedule.now at.number-index 0 in (
      c.in_ok-take_turn.ensures.graph ∙ i.0,
      c.in_ok-take_turn.ensures.threads ∙ i.1,
      next-turn c.args.self.now.graph at.self c.take_turn.new.self c.args.schedule.now at.number-index n c.loop-number-test.true refl
          (number-some _ n (c.requires at.number-index 0 c.loop-number-test.true))
          (c.in_ok-take_turn.ensures.turn ∙ ap (λ (k : Graph). stage_of k (take_turn k (play_of at.self) (n - 1))) i.0)
          ∙ i.2,
    )

pub returns-clause-turns : goal.returns-clause-turns
returns-clause-turns c =
    let at = c.loop-number in
    last-turn c.args.self.now.graph at.self _ c.args.schedule.now at.number-index at.invariant.0 c.loop-number-test.false at.invariant.2
