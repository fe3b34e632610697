use Rattle.std.proofs.Common.{sym, ap, ◌∙◌}
use Rattle.node_versions.specs.Entries.{with_outs}
use Rattle.dynamic_edges.proofs.Removed.{since-has, removed-first, removed-none}
use Rattle.dynamic_edges.proofs.dropping.remove_edge.Goals as goal

pub remove_out-requires : goal.remove_out-requires
remove_out-requires c = since-has c.args.node c.in-Some.since c.args.list.now.outs (sym c.since_of.ensures ∙ c.in-Some.is)

pub returns-in-Some : goal.returns-in-Some
returns-in-Some c = c.remove_out.ensures ∙ ap (with_outs c.args.list.now) (removed-first c.args.node c.in-Some.since c.args.list.now.outs c.is_kept.ensures.different (sym c.since_of.ensures ∙ c.in-Some.is))

pub returns-in_default : goal.returns-in_default
returns-in_default c = ap (with_outs c.args.list.now) (sym (removed-none c.args.node c.args.list.now.outs (sym c.since_of.ensures ∙ c.in_default.is)))
