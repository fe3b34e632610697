use Rattle.std.proofs.Common.{arith, ap, sym, ◌∙◌}
use Rattle.node_versions.specs.Entries.{version_at}
use Rattle.node_versions.proofs.Indexes.{entry_at_index, has_no_index, version_at_place}
use Rattle.node_versions.proofs.Places.{has_at_place}
use Rattle.node_versions.proofs.list.NodeList.entry_of.Goals as goal

pub returns-then-index-len-clause-exact : goal.returns-then-index-len-clause-exact
returns-then-index-len-clause-exact c = sym (has_at_place c.args.self.now.entries c.args.version c.index_of-index.result c.index_of-index.ensures.place (omega (arith, c.len.ensures, c.if-index-len.true)))

pub returns-then-index-len-clause-entry : goal.returns-then-index-len-clause-entry
returns-then-index-len-clause-entry c = entry_at_index c.args.self.now.entries c.args.version c.index_of-index.result c.index_of-index.ensures.place

pub returns-then-index-len-clause-at : goal.returns-then-index-len-clause-at
returns-then-index-len-clause-at c =
    let found = has_at_place c.args.self.now.entries c.args.version c.index_of-index.result c.index_of-index.ensures.place (omega (arith, c.len.ensures, c.if-index-len.true)) in
    ap (version_at c.args.self.now.entries) c.index_of-index.ensures.place ∙ version_at_place c.args.self.now.entries c.args.version found

pub returns-else-index-len-clause-exact : goal.returns-else-index-len-clause-exact
returns-else-index-len-clause-exact c = has_no_index c.args.self.now.entries c.args.version c.index_of-index.result c.index_of-index.ensures.place (omega (arith, c.len.ensures, c.if-index-len.false))
