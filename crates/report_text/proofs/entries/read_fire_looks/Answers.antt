use Rattle.report_text.proofs.LineLaws.{looked}
use Rattle.report_text.proofs.EntryLaws.{looks_behind}
use Rattle.report_text.proofs.entries.read_fire_looks.Goals as goal

pub returns-clause-text : goal.returns-clause-text
returns-clause-text c =
    looked _ _ c.is_empty.result _ _ _ c.if-is_empty.false c.is_empty.ensures.1 c.in_ok-rest.ensures.each c.in-Some.ensures c.in_ok-rest.ensures.text

pub returns-then-is_empty-clause-none : goal.returns-then-is_empty-clause-none
returns-then-is_empty-clause-none c = λ syntax them after are e.
    let behind = looks_behind c.args.text.now c.in-Some.rest.now c.in-Some.ensures them after e in
    c.in_ok-rest.ensures.some them after are behind.0 behind.1 (c.is_empty.ensures.0 c.if-is_empty.true)

pub returns-clause-all : goal.returns-clause-all
returns-clause-all c = λ them after are e.
    let behind = looks_behind c.args.text.now c.in-Some.rest.now c.in-Some.ensures them after e in
    c.in_ok-rest.ensures.all them after are behind.1
