use Rattle.std.proofs.Common.{List, ℕ, sym, subst, ap, ◌∙◌, All}
use Rattle.std.specs.Prelude.{codes, Some}
use Rattle.std.proofs.lemmas.List.Elements.{All-push}
use Rattle.script_tree.specs.declared.value.Value.{Value}
use Rattle.expr_script.specs.Pieces.{words_among}
use Rattle.deck_lines.specs.Kept.{SetsWell}
use Rattle.deck_lines.specs.Reading.{set_said}
use Rattle.deck_lines.proofs.Going.{Going, goes_on, goes_wrong, goes_to_end}
use Rattle.deck_lines.proofs.calls.sets.Goals as goal

pub returns-in_default-set-clause-read : goal.returns-in_default-set-clause-read
returns-in_default-set-clause-read c =
    goes_wrong (codes ",") set_said (words_among c.args.text.now c.args.pieces.now) c.loop-before.sets.items (words_among c.args.text.now c.loop-before.rest.now) (words_among c.args.text.now c.in-Some.before.now)
    c.loop-before.invariant.going c.in-Some.ensures.some c.in-Some.ensures.before c.in_default-set.ensures.none

pub loop-before-preserved : goal.loop-before-preserved
loop-before-preserved c = record {
  well = subst (All SetsWell) (sym c.in_ok-push.ensures.items) (All-push SetsWell c.loop-before.sets.items c.in-Some-set.one c.loop-before.invariant.well c.in-Some-set.ensures.well);
  whole = c.in-Some.ensures.whole.1;
  going = subst (λ (done : List (List ℕ × Value)). Going (codes ",") set_said (words_among c.args.text.now c.args.pieces.now) done (words_among c.args.text.now c.in-Some.after.now)) (sym c.in_ok-push.ensures.items)
      (goes_on (codes ",") set_said (words_among c.args.text.now c.args.pieces.now) c.loop-before.sets.items (words_among c.args.text.now c.loop-before.rest.now) (words_among c.args.text.now c.in-Some.before.now) (words_among c.args.text.now c.in-Some.after.now) c.in-Some-set.one
      c.loop-before.invariant.going c.in-Some.ensures.some c.in-Some.ensures.before c.in-Some.ensures.behind c.in-Some-set.ensures.some);
}

pub returns-clause-read : goal.returns-clause-read
returns-clause-read c =
    goes_to_end (codes ",") set_said (words_among c.args.text.now c.args.pieces.now) c.loop-before.sets.items (words_among c.args.text.now c.loop-before.rest.now) c.in-Some-set-2.last
    c.loop-before.invariant.going c.in_default.ensures.none c.in-Some-set-2.ensures.some
    ∙ ap (λ (sets : List (List ℕ × Value)). Some sets) (sym (c.from_vec.ensures ∙ c.in_ok-push-2.ensures.items))

pub returns-clause-well : goal.returns-clause-well
returns-clause-well c =
    subst (All SetsWell) (sym (c.from_vec.ensures ∙ c.in_ok-push-2.ensures.items)) (All-push SetsWell c.loop-before.sets.items c.in-Some-set-2.last c.loop-before.invariant.well c.in-Some-set-2.ensures.well)
