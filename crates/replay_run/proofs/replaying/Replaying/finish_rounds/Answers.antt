use Rattle.std.proofs.Common.{refl, sym, ap, ◌∙◌, arith}
use Rattle.signal_graph.specs.Graph.{Graph}
use Rattle.flow_model.specs.Machine.Schedules.{round_from}
use Rattle.replay_run.specs.Replaying.{stage_of, play_of}
use Rattle.replay_run.proofs.Stages.{one-taken, all-taken, none-taken}
use Rattle.replay_run.proofs.replaying.Replaying.finish_rounds.Goals as goal

pub loop-round-init : goal.loop-round-init
loop-round-init c = (refl, none-taken c.args.self.now.graph c.args.self.now)

pub loop-round-preserved : goal.loop-round-preserved
loop-round-preserved c =
    let at = c.loop-round in
    let i = at.invariant in (
      c.in_ok-round.ensures.graph ∙ i.0,
      one-taken c.args.self.now.graph c.args.self.now at.self c.round.new.self at.round i.1 (sym c.is_over.ensures ∙ c.if-is_over.false)
          (c.in_ok-round.ensures.round ∙ ap (λ (k : Graph). stage_of k (round_from k 0 at.self.threads (play_of at.self))) i.0),
    )

pub returns-then-is_over-clause-rounds : goal.returns-then-is_over-clause-rounds
returns-then-is_over-clause-rounds c = λ more over.
    let at = c.loop-round in
    all-taken c.args.self.now.graph c.args.self.now at.self at.round more at.invariant.0 at.invariant.1 (sym c.is_over.ensures ∙ c.if-is_over.true) over

pub returns-clause-over : goal.returns-clause-over
returns-clause-over c = absurd (let few = c.loop-round.invariant.1.few c.requires.0 c.requires.2 in omega (arith, few, c.requires.1, c.loop-round-test.false))

pub returns-clause-rounds : goal.returns-clause-rounds
returns-clause-rounds c = absurd (let few = c.loop-round.invariant.1.few c.requires.0 c.requires.2 in omega (arith, few, c.requires.1, c.loop-round-test.false))
