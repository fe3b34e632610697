use Rattle.std.proofs.Common.{drop}
use Rattle.node_versions.specs.Entries.{active_nodes}
use Rattle.framing.proofs.Wanting.{IsWanting}
use Rattle.framing.proofs.framed.want_active.Given as goal

abbrev pub invariant-loop-index : goal.invariant-loop-index
invariant-loop-index l = IsWanting l.initial.book l.book l.version (active_nodes l.list.entries l.list.outs l.version) (active_nodes l.list.entries (drop l.index l.list.outs) l.version)
