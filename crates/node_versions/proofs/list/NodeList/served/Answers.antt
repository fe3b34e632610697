use Rattle.std.proofs.Common.{ap₂, sym, nat_lt, ◌∙◌}
use Rattle.node_versions.proofs.Indexes.{served_by_place}
use Rattle.node_versions.proofs.KeptLemmas.{seen}
use Rattle.node_versions.proofs.list.NodeList.served.Goals as goal

pub returns : goal.returns
returns c =
    let k = seen c.args.self.now c.self.invariant c.self.view_is in
    ap₂ nat_lt c.index_of.ensures.place k.frame ∙ sym (served_by_place c.args.self.now.entries c.args.version)
