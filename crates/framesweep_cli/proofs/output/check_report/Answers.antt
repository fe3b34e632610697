use Rattle.framesweep_cli.proofs.Checking.{checked}
use Rattle.framesweep_cli.proofs.output.check_report.Goals as goal

pub returns : goal.returns
returns c =
    checked c.reports_of_runs_by_their_bytes.ensures.bytes c.args.deck.now c.args.versions c.args.report.now c.in_ok-verdict.verdict
    c.verdict_line.result c.requires.0 c.in_ok-verdict.ensures.yes c.in_ok-verdict.ensures.line c.verdict_line.ensures
