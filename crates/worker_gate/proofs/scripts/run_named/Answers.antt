use Rattle.std.proofs.Common.{◌≡◌, ◌≤◌, IfOk, length, subst}
use Rattle.call_log.specs.Merge.{Merge}
use Rattle.sweeper.specs.Ends.{fresh, Closes}
use Rattle.worker_gate.specs.Scripts.{AreMade}
use Rattle.worker_gate.specs.Seats.{fronts_of}
use Rattle.worker_gate.proofs.Whole.{opened-length, opened-numbered, all-passes, closes-Merge}
use Rattle.worker_gate.proofs.scripts.run_named.Goals as goal

pub run_over-passes-requires-clause-as_many : goal.run_over-passes-requires-clause-as_many
run_over-passes-requires-clause-as_many g c κs within =
    let passes = c.in_ok-sweeper.passes in
    opened-length (length c.args.scripts.now) passes (subst (λ n. passes ≡ fresh 1 n) c.len-callers.ensures c.in_ok-sweeper.ensures)

pub run_over-passes-requires-clause-numbered : goal.run_over-passes-requires-clause-numbered
run_over-passes-requires-clause-numbered g c κs within =
    let passes = c.in_ok-sweeper.passes in
    opened-numbered (length c.args.scripts.now) passes (subst (λ n. passes ≡ fresh 1 n) c.len-callers.ensures c.in_ok-sweeper.ensures)

pub close-log-requires : goal.close-log-requires
close-log-requires g c = λ k above within.
    let opened = c.in_ok-sweeper.passes in
    all-passes (length c.args.scripts.now) opened c.run_over-passes.result.0
    (subst (λ n. opened ≡ fresh 1 n) c.len-callers.ensures c.in_ok-sweeper.ensures)
    c.run_over-passes.ensures.callers k above (subst (λ n. k ≤ n) c.requires.named.2 within)

pub returns-clause-merge : goal.returns-clause-merge
returns-clause-merge g c =
    let J = g.J.Naming in
    let scripts = c.args.scripts.now in
    let opened = c.in_ok-sweeper.passes in
    let passes = c.run_over-passes.result.0 in
    let log = c.close-log.result.log.entries in
    let refused = c.in_ok-refused.refused in
    let made = subst (λ r. IfOk r (λ refused. AreMade J.graph J.limit scripts refused (fronts_of opened) (fronts_of passes)))
    c.in_ok-refused.was c.run_over-passes.ensures.made in
    let closed = subst (λ n. Closes J.graph n J.limit passes log c.close-log.result.finals) c.requires.named.2 c.close-log.ensures in
    let merge = closes-Merge J.graph J.limit scripts refused opened passes log c.close-log.result.finals
    (subst (λ n. opened ≡ fresh 1 n) c.len-callers.ensures c.in_ok-sweeper.ensures) c.run_over-passes.ensures.callers made closed in
    subst (λ n. Merge c.args.graph.now scripts n log refused) c.requires.named.3
    (subst (λ x. Merge x scripts J.limit log refused) c.requires.named.1 merge)
