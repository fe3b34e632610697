use Rattle.framesweep_cli.proofs.Making.{made_run}
use Rattle.framesweep_cli.proofs.top.make_run.Goals as goal

pub returns : goal.returns
returns g c =
    made_run c.args.versions c.args.json (g.S.Source.state c.args.source.now) (g.S.Source.state c.input_of.new.source)
    c.in-Ok.input c.in_ok-run_report.field-0 c.in-Ok.ensures.ok c.in-Ok.ensures.emptied c.in_ok-run_report.ensures
