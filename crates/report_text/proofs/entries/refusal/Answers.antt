use Rattle.std.proofs.Common.{◌++◌, ◌∷◌, ◌<◌, ◌∙◌, codes, refl, rules}
use Rattle.std.specs.Prelude.{◌^◌}
use Rattle.report_text.specs.Report.{why_text}
use Rattle.report_text.proofs.EntryLaws.{behind_counts, refused_flat, why_ends, one_why}
use Rattle.report_text.proofs.entries.refusal.Goals as goal

pub returns-in_default-clause-none : goal.returns-in_default-clause-none
returns-in_default-clause-none c = λ refused rest is e.
    c.in_default.ensures.none refused.caller refused.number (why_text refused.why ++ 10 ∷ rest) is.caller is.number (why_ends refused.why (10 ∷ rest)) (e ∙ refused_flat refused rest)

pub returns-in_default-why-clause-none : goal.returns-in_default-why-clause-none
returns-in_default-why-clause-none c = λ refused rest is e.
    let fits : c.in-Some.caller < 2 ^ 32 = search rules in
    let fits_too : c.in-Some.number < 2 ^ 32 = search rules in
    let read = c.in-Some.ensures.some in
    c.in_default-why.ensures.none refused.why (10 ∷ rest) is.why refl
    (behind_counts c.args.text.now (codes "refused thread ") (codes " call ") c.in-Some.caller c.in-Some.number c.in-Some.rest.now refused.caller refused.number (why_text refused.why ++ 10 ∷ rest)
    refl fits fits_too is.caller is.number read.1 (why_ends refused.why (10 ∷ rest)) read.0 (e ∙ refused_flat refused rest))

pub returns-in_default-behind-clause-none : goal.returns-in_default-behind-clause-none
returns-in_default-behind-clause-none c = λ refused rest is e.
    let fits : c.in-Some.caller < 2 ^ 32 = search rules in
    let fits_too : c.in-Some.number < 2 ^ 32 = search rules in
    let read = c.in-Some.ensures.some in
    let behind = behind_counts c.args.text.now (codes "refused thread ") (codes " call ") c.in-Some.caller c.in-Some.number c.in-Some.rest.now refused.caller refused.number (why_text refused.why ++ 10 ∷ rest)
    refl fits fits_too is.caller is.number read.1 (why_ends refused.why (10 ∷ rest)) read.0 (e ∙ refused_flat refused rest) in
    let said = c.in-Some-why.ensures.some in
    c.in_default-behind.ensures rest (one_why c.in-Some.rest.now c.in-Some-why.why refused.why c.in-Some-why.rest.now (10 ∷ rest) said.1 is.why said.2 refl said.0 behind).1
