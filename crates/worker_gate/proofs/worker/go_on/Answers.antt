use Rattle.worker_gate.proofs.Tokens.{waits-Still, further-Still, stepped-Still, job-Still, not_yet-Still, ready-Still, further-HasGone}
use Rattle.worker_gate.proofs.worker.go_on.Goals as goal

pub returns-in-Stepped : goal.returns-in-Stepped
returns-in-Stepped g c = stepped-Still g.J.Naming.graph g.J.Naming.callers g.J.Naming.limit c.args.live c.in-Stepped.live c.advance.result c.advance.ensures c.in-Stepped.is

pub returns-in-Evaluate : goal.returns-in-Evaluate
returns-in-Evaluate g c =
    let x = c.in-Evaluate in
    further-Still c.args.live x.live c.evaluate.result
    (job-Still g.J.Naming.graph g.J.Naming.callers g.J.Naming.limit c.args.live x.live x.job c.advance.result c.advance.ensures x.is).0
    (c.evaluate.ensures.caller, c.evaluate.ensures.sees)

pub returns-in-NotYet : goal.returns-in-NotYet
returns-in-NotYet g c =
    let x = c.in-NotYet in
    further-Still c.args.live x.live c.wait_for_growth.result
    (not_yet-Still g.J.Naming.graph g.J.Naming.callers g.J.Naming.limit c.args.live x.live x.field-1 c.advance.result c.advance.ensures x.is)
    (waits-Still g.J.Naming.graph g.J.Naming.callers g.J.Naming.limit x.live c.wait_for_growth.result c.wait_for_growth.ensures)

pub returns-in-Ready : goal.returns-in-Ready
returns-in-Ready g c =
    let x = c.in-Ready in
    further-HasGone g.J.Naming.limit c.args.live x.live c.end.result
    (ready-Still g.J.Naming.graph g.J.Naming.callers g.J.Naming.limit c.args.live x.live c.advance.result c.advance.ensures x.is)
    c.end.ensures
