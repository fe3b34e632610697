use Rattle.deck_text.specs.Readers.{deck_of}
use Rattle.deck_text.specs.Refused.{NotTaken, IsReason}
use Rattle.deck_text.proofs.Refusing.{at, fits, not_taken, not_read}
use Rattle.deck_text.proofs.reader.Reader.read.Goals as goal
use Rattle.std.proofs.lemmas.Result.{IfErr-weaker}

pub returns-in-Ok-clause-refuses : goal.returns-in-Ok-clause-refuses
returns-in-Ok-clause-refuses c = λ end within.
    let p = at c.args.self.now end c.args.line.now in
    let fitting = fits p within c.if-line-gt-LINE_BYTES.false in
    IfErr-weaker c.take.result (NotTaken c.in-Ok.said (deck_of c.args.self.now)) (IsReason p)
    (λ reason refused. not_taken c.one_form.ensures c.one_answer.ensures.apart c.one_line.ensures p c.in-Ok.said reason fitting c.in-Ok.ensures.ok refused)
    c.take.ensures.refuses

pub returns-in-Err-clause-refuses : goal.returns-in-Err-clause-refuses
returns-in-Err-clause-refuses c = λ end within.
    let p = at c.args.self.now end c.args.line.now in
    let fitting = fits p within c.if-line-gt-LINE_BYTES.false in
    not_read c.one_form.ensures c.one_answer.ensures.fault c.args.self.now end c.args.line.now c.in-Err.fault c.refused.result fitting c.in-Err.ensures.err c.refused.ensures
