use Rattle.std.proofs.Common.{refl}
use Rattle.report_text.specs.Printed.{printed}
use Rattle.report_text.proofs.OneReport.{one_report, whole_reports}
use Rattle.report_text.proofs.laws.reports_are_told_apart.Goals as goal

pub returns-clause-one : goal.returns-clause-one
returns-clause-one c = one_report

pub returns-clause-whole : goal.returns-clause-whole
returns-clause-whole c = λ report line is stops. whole_reports report (printed report) line is refl stops
