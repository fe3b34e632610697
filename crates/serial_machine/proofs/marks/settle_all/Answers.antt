use Rattle.std.proofs.Common.{◌≤◌, length, arith, rules}
use Rattle.std.proofs.lemmas.Grind.{common_steps}
use Rattle.serial_machine.proofs.MarkLaws.{settled}
use Rattle.serial_machine.proofs.marks.settle_all.Goals as goal

pub returns-clause-values : goal.returns-clause-values
returns-clause-values c =
    let past : length c.args.blocks.now ≤ c.loop-block.block = first_of (omega arith, first_of (search rules, grind (arith, common_steps))) in
    (settled c.args.nodes.now c.args.blocks.now c.loop-block.nodes c.loop-block.before.items c.args.now.now c.loop-block.block c.requires.flags c.requires.has_now past c.loop-block.invariant).values
