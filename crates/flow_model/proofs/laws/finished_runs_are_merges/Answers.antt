use Rattle.flow_model.proofs.Schedules.FirstExampleIsFinished.{retrofit-finished}
use Rattle.flow_model.proofs.Callers.FinishedRunsMerge.{finished-Merge}
use Rattle.flow_model.proofs.laws.finished_runs_are_merges.Goals as goal

pub returns-clause-example : goal.returns-clause-example
returns-clause-example c = retrofit-finished

pub returns-clause-merge : goal.returns-clause-merge
returns-clause-merge c = finished-Merge
