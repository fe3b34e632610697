use Rattle.std.proofs.Common.{◌++◌, ◌<◌, ◌∙◌, codes, refl, rules}
use Rattle.std.specs.Prelude.{◌^◌}
use Rattle.report_text.proofs.EntryLaws.{behind_counts, done_flat}
use Rattle.report_text.proofs.entries.done.Goals as goal

pub returns-in_default-behind-clause-none : goal.returns-in_default-behind-clause-none
returns-in_default-behind-clause-none c = λ accepted refused rest ha hr e.
    let fits : c.in-Some.accepted < 2 ^ 32 = search rules in
    let fits_too : c.in-Some.refused < 2 ^ 32 = search rules in
    let read = c.in-Some.ensures.some in
    c.in_default-behind.ensures rest (behind_counts c.args.text.now (codes "done ") (codes " accepted ") c.in-Some.accepted c.in-Some.refused c.in-Some.rest.now accepted refused (codes " refused\n" ++ rest)
    refl fits fits_too ha hr read.1 refl read.0 (e ∙ done_flat accepted refused rest))
