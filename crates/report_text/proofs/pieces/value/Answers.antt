use Rattle.report_text.proofs.Unique.{none_weaker, not_faulty, not_either}
use Rattle.report_text.proofs.pieces.value.Goals as goal

pub returns-in-Some-clause-none : goal.returns-in-Some-clause-none
returns-in-Some-clause-none c = none_weaker c.fault.result _ _ (not_faulty c.args.text.now c.in-Some.rest.now c.in-Some.ensures) c.fault.ensures.none

pub returns-in-None-clause-none : goal.returns-in-None-clause-none
returns-in-None-clause-none c = none_weaker c.plain.result _ _ (not_either c.args.text.now c.in-None.ensures) c.plain.ensures.none
