use Rattle.std.proofs.Common.{List, ℕ, ◌≢◌, ◌/◌, get_or, sym, ap, ◌∙◌, subst, arith}
use Rattle.node_set.specs.Bits.{without_bit, Summarizes}
use Rattle.node_set.proofs.Summaries.{summarizes-without, summarizes-emptied}
use Rattle.node_set.proofs.bits.take_out.Goals as goal

pub returns-then-words-bit-ne0-clause-summarizes : goal.returns-then-words-bit-ne0-clause-summarizes
returns-then-words-bit-ne0-clause-summarizes c =
    let Q = λ (ws : List ℕ). Summarizes c.args.summary.now ws in
    let N = λ (ws : List ℕ). get_or ws (c.args.bit / 64) 0 ≢ 0 in
    subst Q (sym c.clear.ensures) (summarizes-without c.args.summary.now c.args.words.now c.args.bit c.requires.there (subst N c.clear.ensures c.if-words-bit-ne0.true) c.requires.summarizes)

pub returns-clause-summarizes : goal.returns-clause-summarizes
returns-clause-summarizes c =
    let P = λ (ws : List ℕ). Summarizes ws c.clear.new.words in
    let Q = λ (ws : List ℕ). Summarizes (without_bit c.args.summary.now (c.args.bit / 64)) ws in
    let empty = ap (λ (ws : List ℕ). get_or ws (c.args.bit / 64) 0) (sym c.clear.ensures) ∙ c.if-words-bit-ne0.false in
    subst P (sym c.clear-2.ensures) (subst Q (sym c.clear.ensures) (summarizes-emptied c.args.summary.now c.args.words.now c.args.bit (let few = c.requires.few in let four = c.requires.summary in let inside = c.requires.inside in omega arith) empty c.requires.summarizes))
