use Rattle.std.proofs.Common.{◌≡◌, find, None, take}
use Rattle.signal_graph.specs.Declarations.{is_undeclared, names_of_parts}
use Rattle.signal_graph.proofs.resolve.first_undeclared_of_parts.Given as goal

abbrev pub invariant-loop-part : goal.invariant-loop-part
invariant-loop-part l = find (is_undeclared l.table) (names_of_parts (take l.part-index l.part-items)) ≡ None
