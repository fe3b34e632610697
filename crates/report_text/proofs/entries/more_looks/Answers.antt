use Rattle.report_text.proofs.LineLaws.{looks_added, some_added, each_added}
use Rattle.report_text.proofs.LooksLaws.{stays, stays_last, looks_are_added}
use Rattle.report_text.proofs.entries.more_looks.Goals as goal

pub loop-rest-preserved : goal.loop-rest-preserved
loop-rest-preserved c =
    let names = c.loop-rest.looks.names in
    let values = c.loop-rest.looks.values in
    let kept = c.loop-rest.invariant in
    let read = c.in-Some.ensures.text in
    rw (c.in_ok-add-in-Some.ensures.names, c.in_ok-add-in-Some.ensures.values) (
      looks_added names values c.in-Some.name c.in-Some.value _ _ _ kept.1 kept.2 kept.0 read.0,
      some_added names c.in-Some.name,
      each_added names values c.in-Some.name c.in-Some.value kept.2,
      λ are. looks_are_added names values c.in-Some.name c.in-Some.value kept.2 (kept.3 are) read.1,
      stays c.args.text.now c.loop-rest.rest.now c.in-Some.after.now c.in-Some.name c.in-Some.value kept.4 read.1 read.2 read.0,
    )

pub returns-in-None-clause-all : goal.returns-in-None-clause-all
returns-in-None-clause-all c = stays_last c.args.text.now _ c.loop-rest.invariant.4 c.in-None.ensures.none
