use Rattle.report_check.proofs.Running.{right_is_of_run, run_is_right, log_is}
use Rattle.report_check.proofs.laws.right_reports_are_those_of_runs.Goals as goal

pub returns-clause-right : goal.returns-clause-right
returns-clause-right c = λ graph scripts limit report. (right_is_of_run graph scripts limit report, run_is_right graph scripts limit report)

pub returns-clause-one : goal.returns-clause-one
returns-clause-one c = log_is
