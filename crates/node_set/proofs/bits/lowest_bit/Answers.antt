use Rattle.std.proofs.Common.{arith}
use Rattle.std.proofs.lemmas.Nat.Bits.{ones_shl}
use Rattle.script_tree.proofs.BitLemmas.{lowest_masked, none_masked}
use Rattle.node_set.proofs.bits.lowest_bit.Goals as goal

pub returns-then-rest-eq0-clause-none : goal.returns-then-rest-eq0-clause-none
returns-then-rest-eq0-clause-none c = none_masked c.args.word c.args.from _ (ones_shl 64 c.args.from (omega arith)) c.if-rest-eq0.true

pub returns-else-rest-eq0-clause-some : goal.returns-else-rest-eq0-clause-some
returns-else-rest-eq0-clause-some c = lowest_masked c.args.word c.args.from _ (omega arith) c.requires (ones_shl 64 c.args.from (omega arith)) (omega arith)
