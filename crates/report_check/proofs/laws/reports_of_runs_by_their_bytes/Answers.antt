use Rattle.report_check.proofs.Bytes.{by_bytes, few_lines}
use Rattle.report_check.proofs.laws.reports_of_runs_by_their_bytes.Goals as goal

pub returns-clause-bytes : goal.returns-clause-bytes
returns-clause-bytes c = by_bytes c.runs_are_read_back.ensures.printed c.reports_are_told_apart.ensures.one

pub returns-clause-lines : goal.returns-clause-lines
returns-clause-lines c = few_lines
