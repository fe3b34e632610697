use Rattle.std.proofs.Common.{inl, inr, ap}
use Rattle.flow_model.specs.declared.step.Step.{Step}
use Rattle.flow_model.specs.declared.step.Step.TheVariants as steps
use Rattle.flow_model.specs.declared.step.Turn.TheVariants as turn
use Rattle.flow_model.specs.Machine.Histories.{state}
use Rattle.sweeper.specs.Tokens.{met_at}
use Rattle.sweeper.proofs.Meets.{evaluate-turn, body-turn, evaluate-takes, body-takes}
use Rattle.sweeper.proofs.locked.Locked.take_step.Goals as goal

pub hand_out-requires-clause-due : goal.hand_out-requires-clause-due
hand_out-requires-clause-due g c =
    let j = g.J.Naming in
    let e = c.in-Evaluate in
    let is = evaluate-turn j.graph (state j.graph j.callers j.limit c.args.self.now.moves) c.args.met.version e.version e.node (turn.Step c.args.step) c.requires.turn (ap (λ (s : Step). turn.Step s) e.is) in
    inl (c.requires.turn.allowed (steps.Evaluate c.args.met.version e.node) is)

pub returns-in-Evaluate : goal.returns-in-Evaluate
returns-in-Evaluate g c =
    let j = g.J.Naming in
    let e = c.in-Evaluate in
    let is = evaluate-turn j.graph (state j.graph j.callers j.limit c.args.self.now.moves) c.args.met.version e.version e.node (turn.Step c.args.step) c.requires.turn (ap (λ (s : Step). turn.Step s) e.is) in
    evaluate-takes j.graph j.callers j.limit (met_at j.graph j.callers j.limit c.args.met c.args.self.now.moves) (turn.Step c.args.step) e.node is
    (c.requires.turn.allowed (steps.Evaluate c.args.met.version e.node) is) c.hand_out.result c.hand_out.ensures

pub hand_out-requires-in-Body-clause-due : goal.hand_out-requires-in-Body-clause-due
hand_out-requires-in-Body-clause-due g c =
    let j = g.J.Naming in
    let e = c.in-Body in
    let is = body-turn j.graph (state j.graph j.callers j.limit c.args.self.now.moves) c.args.met.version e.version e.node (turn.Step c.args.step) c.requires.turn (ap (λ (s : Step). turn.Step s) e.is) in
    inr (c.requires.turn.allowed (steps.Body c.args.met.version e.node) is)

pub returns-in-Body : goal.returns-in-Body
returns-in-Body g c =
    let j = g.J.Naming in
    let e = c.in-Body in
    let is = body-turn j.graph (state j.graph j.callers j.limit c.args.self.now.moves) c.args.met.version e.version e.node (turn.Step c.args.step) c.requires.turn (ap (λ (s : Step). turn.Step s) e.is) in
    body-takes j.graph j.callers j.limit (met_at j.graph j.callers j.limit c.args.met c.args.self.now.moves) (turn.Step c.args.step) e.node is
    (c.requires.turn.allowed (steps.Body c.args.met.version e.node) is) c.hand_out-in-Body.result c.hand_out-in-Body.ensures
