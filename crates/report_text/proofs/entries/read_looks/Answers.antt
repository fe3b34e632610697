use Rattle.std.proofs.lemmas.Result.{IfOk-weaker}
use Rattle.report_text.proofs.EntryLaws.{looks_on, no_looks}
use Rattle.report_text.proofs.entries.read_looks.Goals as goal

pub returns-in_ok-add-in-Some-clause-all : goal.returns-in_ok-add-in-Some-clause-all
returns-in_ok-add-in-Some-clause-all c =
    let read = c.in-Some.ensures.some in
    IfOk-weaker c.more_looks.result _ _
    (λ rest all. looks_on c.args.text.now c.in-Some.name c.in-Some.value c.in-Some.rest.now rest.now read.0 (read.1, read.2) read.3 all)
    c.more_looks.ensures.all

pub returns-in-None-clause-all : goal.returns-in-None-clause-all
returns-in-None-clause-all c = λ them after are e. (no_looks c.args.text.now c.in-None.ensures.none them after are e).1

pub returns-in-None-clause-some : goal.returns-in-None-clause-some
returns-in-None-clause-some c = λ them after are some e none. some (no_looks c.args.text.now c.in-None.ensures.none them after are e).0
