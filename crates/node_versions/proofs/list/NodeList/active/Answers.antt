use Rattle.std.proofs.Common.{ap, ◌∙◌, arith}
use Rattle.node_versions.specs.Entries.{is_active, since_at, version_at}
use Rattle.node_versions.proofs.Indexes.{version_at_place}
use Rattle.node_versions.proofs.Places.{place-below}
use Rattle.node_versions.proofs.list.NodeList.active.Goals as goal

pub active_at-requires-clause-in_list : goal.active_at-requires-clause-in_list
active_at-requires-clause-in_list c = omega (arith, c.index_of.ensures.place, place-below c.args.self.now.entries c.args.version c.requires.entry)

pub returns : goal.returns
returns c =
    let own = ap (version_at c.args.self.now.entries) c.index_of.ensures.place ∙ version_at_place c.args.self.now.entries c.args.version c.requires.entry in
    c.active_at.ensures ∙ ap (is_active c.args.self.now.entries (since_at c.args.self.now.outs c.args.index)) own
