use Rattle.std.proofs.Common.{arith}
use Rattle.step_rules.proofs.Seen.{below-found, below-late, below-none}
use Rattle.step_rules.proofs.lists.open_below.Goals as goal

pub returns-in-Some : goal.returns-in-Some
returns-in-Some c = below-found c.args.list.now.entries c.in-Some.first c.args.index _ c.in-Some.ensures.index (c.in-Some.ensures.some c.get.result.now c.get.ensures) c.if-first-index.true

pub returns-in_default : goal.returns-in_default
returns-in_default c = below-late c.args.list.now.entries c.in-Some.first c.args.index c.in-Some.ensures.index (omega (arith, c.if-first-index.false))

pub returns-in_default-2 : goal.returns-in_default-2
returns-in_default-2 c = below-none c.args.list.now.entries c.args.index c.in_default.ensures.none
