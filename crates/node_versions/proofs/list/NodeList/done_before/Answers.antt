use Rattle.std.proofs.Common.{ap, ◌∙◌, take}
use Rattle.node_versions.specs.Entries.{last_done}
use Rattle.node_versions.proofs.Places.{take-before}
use Rattle.node_versions.proofs.list.NodeList.done_before.Goals as goal

pub returns : goal.returns
returns c =
    let part = ap (λ n. take n c.args.self.now.entries) c.index_of.ensures.place ∙ take-before c.args.self.now.entries c.args.version in
    c.last_done.ensures ∙ c.done_part.ensures.last ∙ ap last_done part
