use Rattle.report_text.specs.Report.{refused_line}
use Rattle.report_text.specs.Printed.{IsRefusal}
use Rattle.report_text.proofs.LineLaws.{line_added, few_added}
use Rattle.report_text.proofs.reading.read_refused.Goals as goal
use Rattle.script_tree.proofs.Lists.{all_end}

pub loop-rest-preserved : goal.loop-rest-preserved
loop-rest-preserved c =
    let lines = c.loop-rest.lines.items in
    let kept = c.loop-rest.invariant in
    let read = c.in-Some.ensures in
    rw c.in_ok-push-in-Some.ensures.items (
      line_added refused_line lines c.in-Some.line c.args.text.now c.loop-rest.rest.now c.in-Some.after.now kept.0 read.text,
      all_end IsRefusal lines c.in-Some.line kept.1 read.data,
      few_added lines c.in-Some.line c.in-Some.after.now c.loop-rest.rest.now c.args.text.now kept.2 read.shorter,
    )
