use Rattle.std.proofs.Common.{◌≡◌, take}
use Rattle.worker_gate.specs.Scripts.{IsMade}
use Rattle.worker_gate.proofs.worker.make_script.Given as goal

abbrev pub invariant-loop-index : goal.invariant-loop-index
invariant-loop-index g l =
    (l.pass.caller ≡ l.initial.pass.caller)
    × IsMade g.J.Naming.graph g.J.Naming.limit l.initial.pass.caller (take l.index l.script) l.refused l.initial.pass.front l.pass.front
