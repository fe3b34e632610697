use Rattle.report_text.specs.Report.{refused_line}
use Rattle.report_text.specs.Printed.{IsRefusal}
use Rattle.report_text.proofs.Steps.{one_more, all_from}
use Rattle.report_text.proofs.whole.print_all_refused.Goals as goal

pub loop-one-preserved : goal.loop-one-preserved
loop-one-preserved c = (
  one_more refused_line c.args.refused.now c.loop-one.one-index _ _ _ _ c.loop-one-test.true c.in_ok-print_refused.ensures.text c.loop-one.invariant.0,
  λ behind. c.loop-one.invariant.1 (all_from IsRefusal c.args.refused.now c.loop-one.one-index _ c.loop-one-test.true c.in_ok-print_refused.ensures.refusal behind),
)
