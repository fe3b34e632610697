use Rattle.std.proofs.Common.{subst, sym, ◌∙◌, arith}
use Rattle.std.proofs.lemmas.Bool.Decides.{nat_tests}
use Rattle.std.specs.Prelude.{◌<◌, length, drop}
use Rattle.command_words.specs.Blocks.{AreSome}
use Rattle.command_words.specs.Options.{AreNoOptions}
use Rattle.command_words.proofs.Found.{texts, some_texts, texts_behind, no_block, not_had, one_more, none_more}
use Rattle.command_words.proofs.options.+are_options.Goals as goal

pub returns-in_default-clause-none : goal.returns-in_default-clause-none
returns-in_default-clause-none t c = λ _.
    let some : 0 < length c.args.words.now = grind (arith, nat_tests, c.if-is_empty.false, c.is_empty.ensures) in
    no_block c.args.kinds (texts c.args.words.now) (some_texts c.args.words.now some) (c.in_default.ensures.none some)

pub returns-then-not-has-clause-none : goal.returns-then-not-has-clause-none
returns-then-not-has-clause-none t c = λ _.
    not_had c.args.kinds (texts c.args.words.now) c.in-Some.block.kind c.in-Some.block.words c.in-Some.ensures.some (sym c.has.ensures
    ∙ c.if-not-has.true)

pub returns-clause-some : goal.returns-clause-some
returns-clause-some t c = λ yes.
    let some = subst (λ ws. AreSome c.without.result ws) (texts_behind c.args.words.now c.in-Some.block.words)
    (c.are_options.ensures.some yes) in
    one_more c.args.kinds (texts c.args.words.now) c.in-Some.block.kind c.in-Some.block.words c.in-Some.ensures.some (sym c.has.ensures
    ∙ c.if-not-has.false)
    (subst (λ ks. AreSome ks (drop c.in-Some.block.words (texts c.args.words.now))) c.without.ensures some)

pub returns-clause-none : goal.returns-clause-none
returns-clause-none t c = λ not.
    let none = subst (λ ws. AreNoOptions c.without.result ws) (texts_behind c.args.words.now c.in-Some.block.words)
    (c.are_options.ensures.none not) in
    none_more c.args.kinds (texts c.args.words.now) c.in-Some.block.kind c.in-Some.block.words c.in-Some.ensures.some
    (subst (λ ks. AreNoOptions ks (drop c.in-Some.block.words (texts c.args.words.now))) c.without.ensures none)
