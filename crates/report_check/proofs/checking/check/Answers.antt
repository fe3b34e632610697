use Rattle.report_check.proofs.Running.{answer_is}
use Rattle.report_check.proofs.checking.check.Goals as goal

pub returns-clause-yes : goal.returns-clause-yes
returns-clause-yes c = answer_is c.args.deck.now.graph c.args.deck.now.scripts c.args.versions c.args.report.now c.check_lines.result c.check_lines.ensures
