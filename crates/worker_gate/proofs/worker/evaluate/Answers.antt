use Rattle.worker_gate.proofs.Tokens.{put-Still}
use Rattle.worker_gate.proofs.worker.evaluate.Goals as goal

pub returns-clause-caller : goal.returns-clause-caller
returns-clause-caller g c = (put-Still g.J.Naming.graph g.J.Naming.callers g.J.Naming.limit c.args.live c.put.result c.evaluate-answer.result c.put.ensures).0

pub returns-clause-sees : goal.returns-clause-sees
returns-clause-sees g c = (put-Still g.J.Naming.graph g.J.Naming.callers g.J.Naming.limit c.args.live c.put.result c.evaluate-answer.result c.put.ensures).1
