use Rattle.framesweep_cli.proofs.Workloads.{make_unread, make_status, make_alike}
use Rattle.framesweep_cli.proofs.laws.workloads_are_repeated.Goals as goal

pub returns-clause-unread : goal.returns-clause-unread
returns-clause-unread c = make_unread

pub returns-clause-status : goal.returns-clause-status
returns-clause-status c = make_status

pub returns-clause-alike : goal.returns-clause-alike
returns-clause-alike c = make_alike
