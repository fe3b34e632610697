use Rattle.std.proofs.Common.{List, ℕ, sym, subst}
use Rattle.std.specs.Prelude.{codes}
use Rattle.expr_script.specs.Pieces.{words_among}
use Rattle.deck_lines.specs.Reading.{name_of}
use Rattle.deck_lines.proofs.Going.{Going, goes_on, goes_wrong}
use Rattle.deck_lines.proofs.names.names.Goals as goal

pub returns-in_default-name-clause-read : goal.returns-in_default-name-clause-read
returns-in_default-name-clause-read c =
    goes_wrong (codes ",") name_of (words_among c.args.text.now c.args.pieces.now) c.loop-before.names.items (words_among c.args.text.now c.loop-before.rest.now) (words_among c.args.text.now c.in-Some.before.now)
    c.loop-before.invariant.going c.in-Some.ensures.some c.in-Some.ensures.before c.in_default-name.ensures.none

pub loop-before-preserved : goal.loop-before-preserved
loop-before-preserved c = record {
  whole = c.in-Some.ensures.whole.1;
  going = subst (λ (done : List (List ℕ)). Going (codes ",") name_of (words_among c.args.text.now c.args.pieces.now) done (words_among c.args.text.now c.in-Some.after.now)) (sym c.in_ok-push.ensures.items)
      (goes_on (codes ",") name_of (words_among c.args.text.now c.args.pieces.now) c.loop-before.names.items (words_among c.args.text.now c.loop-before.rest.now) (words_among c.args.text.now c.in-Some.before.now) (words_among c.args.text.now c.in-Some.after.now) c.in-Some-name.one
      c.loop-before.invariant.going c.in-Some.ensures.some c.in-Some.ensures.before c.in-Some.ensures.behind c.in-Some-name.ensures.some);
}
