use Rattle.std.proofs.Common.{List, ℕ, subst}
use Rattle.std.specs.List.{AllZip}
use Rattle.expr_script.specs.Pieces.{words_among}
use Rattle.deck_lines.specs.Forms.{SetForm, Fire}
use Rattle.deck_lines.specs.Lines.{IsReadAs, SaysSet}
use Rattle.deck_lines.specs.Reading.{sets_said, fire_of}
use Rattle.deck_lines.proofs.Calling.{fails_so, fire_no_sets, fire_no_first, fire_made, fire_looks_made}
use Rattle.deck_lines.proofs.calls.fire.Goals as goal

pub returns-in-Ok-clause-read : goal.returns-in-Ok-clause-read
returns-in-Ok-clause-read c =
    fire_made (words_among c.args.text.now c.args.pieces.now) c.in-Ok.sets c.fire_with.result c.in_default.ensures.none c.in-Ok.ensures.read
    (subst (λ (looks : List (List ℕ)). (forms : List SetForm) → AllZip SaysSet forms c.in-Ok.sets → IsReadAs (Fire forms looks) c.fire_with.result) c.new.ensures c.fire_with.ensures.read)

pub returns-in-Err-clause-read : goal.returns-in-Err-clause-read
returns-in-Err-clause-read c =
    let words = words_among c.args.text.now c.args.pieces.now in
    fails_so (sets_said words) (fire_of words) c.in-Err.fault c.in-Err.ensures.read (fire_no_sets words c.in_default.ensures.none)

pub returns-in-Err-sets-clause-read : goal.returns-in-Err-sets-clause-read
returns-in-Err-sets-clause-read c =
    let words = words_among c.args.text.now c.args.pieces.now in
    let first = words_among c.args.text.now c.in-Some.before.now in
    fails_so (sets_said first) (fire_of words) c.in-Err-sets.fault c.in-Err-sets.ensures.read (fire_no_first words first (words_among c.args.text.now c.in-Some.behind.now) c.in-Some.ensures.some c.in-Some.ensures.before c.in-Some.ensures.behind)

pub returns-in-Ok-names-clause-read : goal.returns-in-Ok-names-clause-read
returns-in-Ok-names-clause-read c =
    fire_looks_made (words_among c.args.text.now c.args.pieces.now) (words_among c.args.text.now c.in-Some.before.now) (words_among c.args.text.now c.in-Some.behind.now) c.in-Ok-sets.sets c.in-Ok-names.looks c.fire_with-in-Ok-names.result
    c.in-Some.ensures.some c.in-Some.ensures.before c.in-Some.ensures.behind c.in-Ok-sets.ensures.read c.in-Ok-names.ensures.read c.fire_with-in-Ok-names.ensures.read
