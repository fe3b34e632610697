use Rattle.std.proofs.Common.{◌≡◌, ◌∙◌, append_assoc, rules}
use Rattle.report_text.specs.declared.data.Report.{Report}
use Rattle.report_text.specs.Report.{report_of}
use Rattle.report_text.specs.Printed.{data_of, IsReport}
use Rattle.report_text.proofs.OneReport.{run_is_data, read_back}
use Rattle.report_text.proofs.whole.report.Goals as goal

pub returns-clause-back : goal.returns-clause-back
returns-clause-back c = λ few answer right known.
    let run = c.args.finished.now in
    let names = c.args.graph.now.names in
    let run_data : Report = data_of run.log.entries run.refused names run.finals in
    let is : IsReport run_data = search rules in
    let text : c.print_done.new.out ≡ report_of run.log.entries run.refused names run.finals = search (rules, append_assoc) in
    read_back run_data c.print_done.new.out answer is (text ∙ run_is_data run.log.entries run.refused names run.finals) right known
