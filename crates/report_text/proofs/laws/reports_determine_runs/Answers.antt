use Rattle.report_text.proofs.Determined.{one_run_by_text}
use Rattle.report_text.proofs.OneJson.{one_run_by_json}
use Rattle.report_text.proofs.laws.reports_determine_runs.Goals as goal

pub returns-clause-text : goal.returns-clause-text
returns-clause-text c = one_run_by_text

pub returns-clause-json : goal.returns-clause-json
returns-clause-json c = one_run_by_json
