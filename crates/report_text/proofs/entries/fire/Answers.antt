use Rattle.std.proofs.Common.{◌++◌, ◌∷◌, ◌<◌, ◌∙◌, codes, refl, rules}
use Rattle.std.specs.Prelude.{◌^◌}
use Rattle.report_text.specs.Report.{fire_looks}
use Rattle.report_text.proofs.LineLaws.{fire_read}
use Rattle.report_text.proofs.EntryLaws.{behind_counts, fire_flat, fire_looks_end}
use Rattle.report_text.proofs.entries.fire.Goals as goal

pub returns-clause-text : goal.returns-clause-text
returns-clause-text c = fire_read c.in-Some.changed c.in-Some.evaluated _ _ _ _ c.in-Some.ensures.some.0 c.in-Ok.ensures.text

pub returns-in_default-clause-none : goal.returns-in_default-clause-none
returns-in_default-clause-none c = λ syntax a b them after ha hb are e.
    c.in_default.ensures.none a b (fire_looks them ++ 10 ∷ after) ha hb (fire_looks_end them after) (e ∙ fire_flat a b them after)

pub returns-in-Err-clause-none : goal.returns-in-Err-clause-none
returns-in-Err-clause-none c = λ syntax a b them after ha hb are e.
    let fits : c.in-Some.changed < 2 ^ 32 = search rules in
    let fits_too : c.in-Some.evaluated < 2 ^ 32 = search rules in
    let read = c.in-Some.ensures.some in
    c.in-Err.ensures.none syntax them after are
    (behind_counts c.args.text.now (codes " fire changed ") (codes " evaluated ") c.in-Some.changed c.in-Some.evaluated c.in-Some.rest.now a b (fire_looks them ++ 10 ∷ after)
    refl fits fits_too ha hb read.1 (fire_looks_end them after) read.0 (e ∙ fire_flat a b them after))

pub returns-clause-all : goal.returns-clause-all
returns-clause-all c = λ a b them after ha hb are e.
    let fits : c.in-Some.changed < 2 ^ 32 = search rules in
    let fits_too : c.in-Some.evaluated < 2 ^ 32 = search rules in
    let read = c.in-Some.ensures.some in
    c.in-Ok.ensures.all them after are
    (behind_counts c.args.text.now (codes " fire changed ") (codes " evaluated ") c.in-Some.changed c.in-Some.evaluated c.in-Some.rest.now a b (fire_looks them ++ 10 ∷ after)
    refl fits fits_too ha hb read.1 (fire_looks_end them after) read.0 (e ∙ fire_flat a b them after))
