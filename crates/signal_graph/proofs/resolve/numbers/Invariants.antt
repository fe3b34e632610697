use Rattle.std.proofs.Common.{◌≡◌, map, take}
use Rattle.script_tree.specs.Names.{place_in}
use Rattle.signal_graph.proofs.resolve.numbers.Given as goal

abbrev pub invariant-loop-name : goal.invariant-loop-name
invariant-loop-name l = l.numbers ≡ map (place_in l.table) (take l.name-index l.name-items)
