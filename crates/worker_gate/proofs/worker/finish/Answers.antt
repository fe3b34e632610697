use Rattle.worker_gate.proofs.Tokens.{same-Still, further-Still, on-Still, over-Sees}
use Rattle.worker_gate.proofs.worker.finish.Goals as goal

pub loop-init : goal.loop-init
loop-init g c = ((tt, tt), same-Still c.args.live)

pub loop-preserved : goal.loop-preserved
loop-preserved g c = ((tt, tt), further-Still c.args.live c.loop.live c.in-On.next c.loop.invariant.1 (on-Still g.J.Naming.limit c.loop.live c.in-On.next c.go_on.result c.go_on.ensures c.in-On.is))

pub returns-in-Ended-clause-caller : goal.returns-in-Ended-clause-caller
returns-in-Ended-clause-caller g c = (over-Sees g.J.Naming.limit c.args.live c.loop.live c.in-Ended.pass c.go_on.result c.loop.invariant.1 c.go_on.ensures c.in-Ended.is).0

pub returns-in-Ended-clause-sees : goal.returns-in-Ended-clause-sees
returns-in-Ended-clause-sees g c = (over-Sees g.J.Naming.limit c.args.live c.loop.live c.in-Ended.pass c.go_on.result c.loop.invariant.1 c.go_on.ensures c.in-Ended.is).1
