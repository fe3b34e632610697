use Rattle.expr_script.specs.Pieces.{words_among}
use Rattle.deck_lines.proofs.Choosing.{gathered_more, gathered_wrong, gathered_last}
use Rattle.deck_lines.proofs.choose.choose.Goals as goal

pub returns-in-Err-clause-read : goal.returns-in-Err-clause-read
returns-in-Err-clause-read c =
    let text = c.args.text.now in
    gathered_wrong c.args.name (words_among text c.args.pieces.now) c.loop-before.selectors c.add.new.self (words_among text c.loop-before.rest.now) (words_among text c.in-Some.before.now) (words_among text c.in-Some.after.now) c.in-Err.fault
    c.loop-before.invariant.gathered c.in-Some.ensures.some c.in-Some.ensures.before c.in-Some.ensures.behind c.in-Err.ensures

pub loop-before-preserved : goal.loop-before-preserved
loop-before-preserved c =
    let text = c.args.text.now in
    record {
      whole = c.in-Some.ensures.whole.1;
      gathered = gathered_more (words_among text c.args.pieces.now) c.loop-before.selectors c.add.new.self (words_among text c.loop-before.rest.now) (words_among text c.in-Some.before.now) (words_among text c.in-Some.after.now)
          c.loop-before.invariant.gathered c.in-Some.ensures.some c.in-Some.ensures.before c.in-Some.ensures.behind c.in_default-add.ensures;
    }

pub returns-clause-read : goal.returns-clause-read
returns-clause-read c =
    let text = c.args.text.now in
    let all = gathered_last (words_among text c.args.pieces.now) c.loop-before.selectors (words_among text c.loop-before.rest.now) c.loop-before.invariant.gathered c.in_default.ensures.none in
    c.last.ensures.read (words_among text c.args.pieces.now) all.0 all.1 all.2
