use Rattle.std.proofs.Common.{◌≡◌, ◌-◌, ◌≤◌}
use Rattle.std.specs.List.{list_any}
use Rattle.flow_model.specs.Machine.State.{call}
use Rattle.flow_model.specs.Parts.Books.{bare, asks_for_in}
use Rattle.step_rules.specs.Fits.{listed}
use Rattle.step_rules.proofs.OpenNodes.{nodes_from}
use Rattle.step_rules.proofs.reading.is_asked_for.Given as goal

abbrev pub invariant-loop-asking : goal.invariant-loop-asking
invariant-loop-asking g l = record {
  rest : list_any (asks_for_in l.graph l.book.book (listed (g.L.Lists.listing_of l.fn.lists)) l.version l.node) (nodes_from l.from (call (bare l.book.book) l.version).open_nodes) ≡ list_any (asks_for_in l.graph l.book.book (listed (g.L.Lists.listing_of l.fn.lists)) l.version l.node) (call (bare l.book.book) l.version).open_nodes;
  lists : g.L.Lists.listing_of l.lists ≡ g.L.Lists.listing_of l.fn.lists;
  nodes : g.L.Lists.nodes l.lists ≡ g.L.Lists.nodes l.fn.lists;
  bound : l.from ≤ g.L.Lists.nodes l.fn.lists;
}

abbrev pub decreases-loop-asking : goal.decreases-loop-asking
decreases-loop-asking g l = g.L.Lists.nodes l.fn.lists - l.from
