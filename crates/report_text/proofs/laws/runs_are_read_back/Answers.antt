use Rattle.std.proofs.Common.{sym, ◌∙◌}
use Rattle.report_text.specs.Printed.{data_of}
use Rattle.report_text.proofs.OneReport.{one_report, run_is_data, read_back}
use Rattle.report_text.proofs.laws.runs_are_read_back.Goals as goal

pub returns-clause-printed : goal.returns-clause-printed
returns-clause-printed c = run_is_data

pub returns-clause-read : goal.returns-clause-read
returns-clause-read c = λ log refused names finals is report is_report e.
    one_report report (data_of log refused names finals) is_report is (sym e ∙ run_is_data log refused names finals)

pub returns-clause-back : goal.returns-clause-back
returns-clause-back c = λ log refused names finals is answer right known.
    read_back (data_of log refused names finals) _ answer is (run_is_data log refused names finals) right known
