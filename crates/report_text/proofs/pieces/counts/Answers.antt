use Rattle.std.proofs.Common.{◌++◌, ◌<◌, rules}
use Rattle.std.specs.Prelude.{◌^◌, decimal}
use Rattle.report_text.proofs.Unique.{behind_count, blank_ends}
use Rattle.report_text.proofs.pieces.counts.Goals as goal

pub returns-in_default-count-clause-none : goal.returns-in_default-count-clause-none
returns-in_default-count-clause-none c = λ m n rest hm hn ends e.
    let fits : c.in-Some.one < 2 ^ 32 = search rules in
    let behind = behind_count c.args.text.now c.args.first.now c.in-Some.one m c.in-Some.rest.now (c.args.second.now ++ (decimal n ++ rest)) fits hm c.in-Some.ensures.some.1
    (blank_ends c.args.second.now (decimal n ++ rest) c.requires) c.in-Some.ensures.some.0 e in
    c.in_default-count.ensures.none n rest hn ends behind.1
