use Rattle.std.proofs.Common.{◌++◌, ◌∷◌, ◌<◌, ◌∙◌, codes, refl, rules}
use Rattle.std.specs.Prelude.{◌^◌}
use Rattle.report_text.specs.Report.{reply_text}
use Rattle.report_text.proofs.EntryLaws.{behind_counts, line_flat, reply_ends}
use Rattle.report_text.proofs.entries.call.Goals as goal

pub returns-in_default-clause-none : goal.returns-in_default-clause-none
returns-in_default-clause-none c = λ syntax line rest is e.
    c.in_default.ensures.none line.version line.caller (reply_text line.names line.reply ++ 10 ∷ rest) is.version is.caller (reply_ends line.names line.reply (10 ∷ rest)) (e ∙ line_flat line rest)

pub returns-in-None-clause-none : goal.returns-in-None-clause-none
returns-in-None-clause-none c = λ syntax line rest is e.
    let fits : c.in-Some.version < 2 ^ 32 = search rules in
    let fits_too : c.in-Some.caller < 2 ^ 32 = search rules in
    let read = c.in-Some.ensures.some in
    let behind = behind_counts c.args.text.now (codes "call ") (codes " thread ") c.in-Some.version c.in-Some.caller c.in-Some.rest.now line.version line.caller (reply_text line.names line.reply ++ 10 ∷ rest)
    refl fits fits_too is.version is.caller read.1 (reply_ends line.names line.reply (10 ∷ rest)) read.0 (e ∙ line_flat line rest) in
    c.in-None.ensures rest (c.in-Ok.ensures.all line.names line.reply rest is.reply behind)

pub returns-in-Err-clause-none : goal.returns-in-Err-clause-none
returns-in-Err-clause-none c = λ syntax line rest is e.
    let fits : c.in-Some.version < 2 ^ 32 = search rules in
    let fits_too : c.in-Some.caller < 2 ^ 32 = search rules in
    let read = c.in-Some.ensures.some in
    let behind = behind_counts c.args.text.now (codes "call ") (codes " thread ") c.in-Some.version c.in-Some.caller c.in-Some.rest.now line.version line.caller (reply_text line.names line.reply ++ 10 ∷ rest)
    refl fits fits_too is.version is.caller read.1 (reply_ends line.names line.reply (10 ∷ rest)) read.0 (e ∙ line_flat line rest) in
    c.in-Err.ensures.none syntax line.names line.reply rest is.reply behind
