use Rattle.report_text.proofs.EntryLaws.{no_why}
use Rattle.report_text.proofs.entries.why.Goals as goal

pub returns-in_default-count-clause-none : goal.returns-in_default-count-clause-none
returns-in_default-count-clause-none c = no_why c.args.text.now c.in_default.ensures.none c.in_default-count.ensures.none
