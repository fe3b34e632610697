use Rattle.std.proofs.Common.{ap, not, List, sym, ◌+◌, ◌∙◌}
use Rattle.std.specs.List.{list_any}
use Rattle.std.proofs.lemmas.Option.{get_or_from_slice_get}
use Rattle.node_versions.specs.Entries.{Entry, OutEdge, is_of, is_active, version_at}
use Rattle.node_versions.proofs.Indexes.{active_at_index}
use Rattle.node_versions.proofs.KeptLemmas.{seen, tail_of}
use Rattle.node_versions.proofs.list.NodeList.active_at.Goals as goal

pub returns : goal.returns
returns c =
    let k = seen c.args.self.now c.self.invariant c.self.view_is in
    let part = tail_of _ c.args.self.now c.self.view_is (c.args.own + 1) c.as_slice.result.now c.as_slice.ensures in
    let since = ap (λ (d : OutEdge). d.1) (sym (get_or_from_slice_get c.args.self.now.outs c.args.index c.out-since.result (0, 0) c.out-since.ensures)) in
    ap not (c.is_among.ensures ∙ ap (λ (xs : List Entry). list_any (is_of c.out-since.result.1) xs) part)
    ∙ active_at_index c.args.self.now.entries c.args.own c.out-since.result.1 k.unique c.requires.in_list
    ∙ ap (λ s. is_active c.args.self.now.entries s (version_at c.args.self.now.entries c.args.own)) since
