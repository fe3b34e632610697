use Rattle.std.proofs.Common.{ℕ, List}
use Rattle.script_tree.specs.declared.value.Value.{Value}
use Rattle.script_tree.proofs.Lists.{all_end}
use Rattle.report_text.specs.Report.{final_line}
use Rattle.report_text.specs.Printed.{IsLook}
use Rattle.report_text.proofs.LineLaws.{line_added, few_added}
use Rattle.report_text.proofs.reading.read_finals.Goals as goal

pub loop-rest-preserved : goal.loop-rest-preserved
loop-rest-preserved c =
    let lines = c.loop-rest.lines.items in
    let last : List ℕ × Value = (c.in-Some.name, c.in-Some.value) in
    let kept = c.loop-rest.invariant in
    let read = c.in-Some.ensures in
    rw c.in_ok-push-in-Some.ensures.items (
      line_added final_line lines last c.args.text.now c.loop-rest.rest.now c.in-Some.after.now kept.0 read.text,
      all_end IsLook lines last kept.1 read.data,
      few_added lines last c.in-Some.after.now c.loop-rest.rest.now c.args.text.now kept.2 read.shorter,
    )
