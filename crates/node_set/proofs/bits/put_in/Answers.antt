use Rattle.std.proofs.Common.{List, ℕ, ◌/◌, sym, subst}
use Rattle.node_set.specs.Bits.{with_bit, Summarizes}
use Rattle.node_set.proofs.Summaries.{summarizes-with}
use Rattle.node_set.proofs.bits.put_in.Goals as goal

pub returns-clause-summarizes : goal.returns-clause-summarizes
returns-clause-summarizes c =
    let P = λ (ws : List ℕ). Summarizes ws c.set.new.words in
    let Q = λ (ws : List ℕ). Summarizes (with_bit c.args.summary.now (c.args.bit / 64)) ws in
    subst P (sym c.set-2.ensures) (subst Q (sym c.set.ensures) (summarizes-with c.args.summary.now c.args.words.now c.args.bit c.requires.inside c.requires.few c.requires.summary c.requires.summarizes))
