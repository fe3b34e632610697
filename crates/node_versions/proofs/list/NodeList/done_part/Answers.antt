use Rattle.std.proofs.Common.{List, ap, ap₂, take, min, ◌∙◌}
use Rattle.node_versions.specs.Entries.{Entry, Versions, last_done}
use Rattle.node_versions.proofs.DoneLen.{last_done_among}
use Rattle.node_versions.proofs.KeptLemmas.{seen}
use Rattle.node_versions.proofs.list.NodeList.done_part.Goals as goal

pub returns-clause-part : goal.returns-clause-part
returns-clause-part c =
    let k = seen c.args.self.now c.self.invariant c.self.view_is in
    ap₂ (λ n (xs : List Entry). take n xs) (c.min-end.ensures ∙ ap (λ n. min c.args.count n) k.done) (c.as_slice.ensures ∙ ap (λ (v : Versions). v.entries) c.self.view_is)

pub returns-clause-last : goal.returns-clause-last
returns-clause-last c = ap last_done (returns-clause-part c) ∙ last_done_among c.args.self.now.entries c.args.count
