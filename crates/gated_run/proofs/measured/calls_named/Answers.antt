use Rattle.std.proofs.Common.{◌≡◌, ◌≤◌, length, subst}
use Rattle.sweeper.specs.Ends.{fresh}
use Rattle.worker_gate.proofs.Whole.{opened-length, opened-numbered, all-passes}
use Rattle.gated_run.proofs.measured.calls_named.Goals as goal

pub run_over-passes-requires-clause-as_many : goal.run_over-passes-requires-clause-as_many
run_over-passes-requires-clause-as_many g c κs within =
    let passes = c.in-Ok.passes in
    opened-length (length c.args.scripts.now) passes (subst (λ n. passes ≡ fresh 1 n) c.len-callers.ensures c.in-Ok.ensures)

pub run_over-passes-requires-clause-numbered : goal.run_over-passes-requires-clause-numbered
run_over-passes-requires-clause-numbered g c κs within =
    let passes = c.in-Ok.passes in
    opened-numbered (length c.args.scripts.now) passes (subst (λ n. passes ≡ fresh 1 n) c.len-callers.ensures c.in-Ok.ensures)

pub close-requires : goal.close-requires
close-requires g c = λ k above within.
    let opened = c.in-Ok.passes in
    all-passes (length c.args.scripts.now) opened c.run_over-passes.result.0
    (subst (λ n. opened ≡ fresh 1 n) c.len-callers.ensures c.in-Ok.ensures)
    c.run_over-passes.ensures.callers k above (subst (λ n. k ≤ n) c.requires.named.2 within)
