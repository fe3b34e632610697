use Rattle.std.proofs.Common.{◌≡◌, find, None, take}
use Rattle.signal_graph.specs.Declarations.{is_undeclared}
use Rattle.signal_graph.proofs.resolve.first_undeclared_of.Given as goal

abbrev pub invariant-loop-name : goal.invariant-loop-name
invariant-loop-name l = find (is_undeclared l.table) (take l.name-index l.name-items) ≡ None
