use Rattle.std.proofs.Common.{◌≡◌, drop}
use Rattle.std.specs.List.{list_all}
use Rattle.signal_graph.specs.Values.{nodes_in}
use Rattle.step_rules.specs.Edges.{is_released_by}
use Rattle.step_rules.proofs.finishing.are_released.Given as goal

abbrev pub invariant-loop-index : goal.invariant-loop-index
invariant-loop-index g l = record {
  rest : list_all (is_released_by (g.L.Lists.listing_of l.fn.lists) l.node l.found) (nodes_in (drop l.index l.picks)) ≡ list_all (is_released_by (g.L.Lists.listing_of l.fn.lists) l.node l.found) (nodes_in l.picks);
  lists : g.L.Lists.listing_of l.lists ≡ g.L.Lists.listing_of l.fn.lists;
  nodes : g.L.Lists.nodes l.lists ≡ g.L.Lists.nodes l.fn.lists;
}
