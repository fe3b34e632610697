use Rattle.framesweep_cli.proofs.Workloads.{made_unread}
use Rattle.framesweep_cli.proofs.top.make_workload.Goals as goal

pub returns : goal.returns
returns g c = made_unread c.args.number c.in_ok-workload_summary.field-0 c.in_ok-workload_summary.ensures
