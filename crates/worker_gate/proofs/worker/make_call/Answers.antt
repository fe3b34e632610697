use Rattle.std.proofs.Common.{subst}
use Rattle.std.specs.Prelude.{MatchBool}
use Rattle.interleave_core.specs.Beginning.{why_of}
use Rattle.worker_gate.specs.Calls.{IsListed}
use Rattle.worker_gate.proofs.Tokens.{refused-IsTaken, ended-IsTaken}
use Rattle.worker_gate.proofs.worker.make_call.Goals as goal

pub returns-in-Live-clause-taken : goal.returns-in-Live-clause-taken
returns-in-Live-clause-taken g c =
    (ended-IsTaken g.J.Naming.graph g.J.Naming.callers g.J.Naming.limit c.args.number c.args.pass c.args.call.now c.in-Live.live c.finish.result c.begin.result c.args.refused.now c.begin.ensures c.in-Live.is
    c.finish.ensures.caller c.finish.ensures.sees c.finish.ensures.within).1

pub returns-in-Refused-clause-taken : goal.returns-in-Refused-clause-taken
returns-in-Refused-clause-taken g c =
    let x = c.in-Refused in
    refused-IsTaken g.J.Naming.graph g.J.Naming.callers g.J.Naming.limit c.args.number c.args.pass x.pass c.args.call.now x.refusal c.begin.result c.args.refused.now c.list-listed.new.refused c.list-listed.result c.begin.ensures x.is
    (subst (λ k. MatchBool c.list-listed.result (IsListed k c.args.number (why_of x.refusal) c.args.refused.now c.list-listed.new.refused) (Unit {0})) c.caller-caller.ensures c.list-listed.ensures)
