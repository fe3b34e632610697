use Rattle.report_text.proofs.EntryLaws.{last_behind}
use Rattle.report_text.proofs.entries.last.Goals as goal

pub returns-in_default-behind-clause-none : goal.returns-in_default-behind-clause-none
returns-in_default-behind-clause-none c = λ last rest is e.
    let read = c.in-Some-named.ensures.some in
    c.in_default-behind.ensures rest
    (last_behind c.args.text.now c.in-Some.rest.now c.in-Some-named.name c.in-Some-named.value c.in-Some-named.rest.now last rest c.in-Some.ensures read.0 (read.1, read.2) read.3 is e)
