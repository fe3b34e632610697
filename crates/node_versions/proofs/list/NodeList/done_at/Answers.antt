use Rattle.std.proofs.Common.{ap, ◌∙◌, ◌+◌, arith, take}
use Rattle.node_versions.specs.Entries.{last_done}
use Rattle.node_versions.proofs.Places.{place-below, take-up_to}
use Rattle.node_versions.proofs.list.NodeList.done_at.Goals as goal

pub done_part-requires : goal.done_part-requires
done_part-requires c = omega (arith, c.index_of.ensures.place, place-below c.args.self.now.entries c.args.version c.requires)

pub returns : goal.returns
returns c =
    let part = ap (λ n. take (n + 1) c.args.self.now.entries) c.index_of.ensures.place ∙ take-up_to c.args.self.now.entries c.args.version in
    c.last_done.ensures ∙ c.done_part.ensures.last ∙ ap last_done part
