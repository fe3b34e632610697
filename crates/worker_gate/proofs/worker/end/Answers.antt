use Rattle.std.proofs.Common.{◌≡◌, ◌≤◌, sym, subst}
use Rattle.flow_model.specs.Follows.Callers.{count_begins}
use Rattle.caller_fronts.specs.Tokens.{Idle}
use Rattle.worker_gate.specs.Calls.{Sees}
use Rattle.worker_gate.proofs.Tokens.{waits-Still, further-Still, ended-Sees, not_ended-Still}
use Rattle.worker_gate.proofs.worker.end.Goals as goal

pub returns-in-Ended : goal.returns-in-Ended
returns-in-Ended g c = subst (λ (p : Idle). (p.caller ≡ c.args.live.caller) × Sees c.args.live.caller c.args.live.front p.front × (count_begins p.front ≤ g.J.Naming.limit)) (sym c.take_over.ensures)
    (ended-Sees g.J.Naming.graph g.J.Naming.callers g.J.Naming.limit c.args.live c.in-Ended.pass c.in-Ended.reply c.end.result c.end.ensures c.in-Ended.is)

pub returns-in-NotYet-default-Before : goal.returns-in-NotYet-default-Before
returns-in-NotYet-default-Before g c =
    let x = c.in-NotYet-default-Before in
    further-Still c.args.live x.live c.wait_for_growth.result
    (not_ended-Still g.J.Naming.graph g.J.Naming.callers g.J.Naming.limit c.args.live x.live x.field-1 c.end.result c.end.ensures x.is)
    (waits-Still g.J.Naming.graph g.J.Naming.callers g.J.Naming.limit x.live c.wait_for_growth.result c.wait_for_growth.ensures)

pub returns-in-NotYet : goal.returns-in-NotYet
returns-in-NotYet g c = not_ended-Still g.J.Naming.graph g.J.Naming.callers g.J.Naming.limit c.args.live c.in-NotYet.live c.in-NotYet.field-1 c.end.result c.end.ensures c.in-NotYet.is
