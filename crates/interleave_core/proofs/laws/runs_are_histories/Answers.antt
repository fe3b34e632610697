use Rattle.interleave_core.specs.Opening.{opened_core}
use Rattle.interleave_core.proofs.RunLemmas.{run_moves, moves_run, same_moves}
use Rattle.interleave_core.proofs.laws.runs_are_histories.Goals as goal

pub returns-clause-history : goal.returns-clause-history
returns-clause-history c graph callers limit acts h = (run_moves acts (opened_core graph callers limit) h).may

pub returns-clause-core : goal.returns-clause-core
returns-clause-core c graph callers limit acts h = let r = run_moves acts (opened_core graph callers limit) h in (r.graph, r.state)

pub returns-clause-every : goal.returns-clause-every
returns-clause-every c graph callers limit moves h = (moves_run moves (opened_core graph callers limit) h, same_moves moves)
