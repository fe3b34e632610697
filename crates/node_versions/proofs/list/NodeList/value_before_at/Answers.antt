use Rattle.std.proofs.Common.{Option, ap, ◌∙◌}
use Rattle.node_versions.specs.Entries.{Entry, last_done, state_of, value_of}
use Rattle.node_versions.proofs.Indexes.{before_at_index}
use Rattle.node_versions.proofs.list.NodeList.value_before_at.Goals as goal

pub returns : goal.returns
returns c =
    let done = c.last_done.ensures ∙ c.done_part.ensures.last ∙ ap last_done (before_at_index c.args.self.now.entries c.args.own c.is_kept.ensures.unique c.requires.in_list) in
    c.value_in.ensures ∙ ap (λ (o : Option Entry). value_of (state_of o)) done
