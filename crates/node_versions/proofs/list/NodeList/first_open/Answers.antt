use Rattle.std.proofs.Common.{arith}
use Rattle.node_versions.proofs.Indexes.{first_open_at_index, no_first_open}
use Rattle.node_versions.proofs.KeptLemmas.{seen}
use Rattle.node_versions.proofs.list.NodeList.first_open.Goals as goal

pub returns-then-self-len-clause-some : goal.returns-then-self-len-clause-some
returns-then-self-len-clause-some c =
    let k = seen c.args.self.now c.self.invariant c.self.view_is in
    first_open_at_index c.args.self.now.entries c.self.inside.first_frame k.frame

pub returns-else-self-len-clause-none : goal.returns-else-self-len-clause-none
returns-else-self-len-clause-none c =
    let k = seen c.args.self.now c.self.invariant c.self.view_is in
    no_first_open c.args.self.now.entries c.self.inside.first_frame k.frame (omega (arith, c.len.ensures, c.if-self-len.false))
