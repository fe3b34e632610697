use Rattle.std.proofs.Common.{subst, sym, arith}
use Rattle.std.specs.Str.{IsUtf8}
use Rattle.command_words.proofs.words.texts.Goals as goal

pub returns-in-Err-clause-err : goal.returns-in-Err-clause-err
returns-in-Err-clause-err c = λ same all. c.in-Err.ensures.err
    (subst IsUtf8 (sym c.word-item.is) (all c.loop-word.word-index c.word-item.result (omega (arith, c.loop-word-test.true))))
