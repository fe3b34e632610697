use Rattle.std.proofs.Common.{◌≡◌, drop, find}
use Rattle.flow_model.specs.Machine.State.{opens}
use Rattle.flow_model.specs.Parts.Books.{bare}
use Rattle.step_rules.proofs.searches.first_open.Given as goal

abbrev pub invariant-loop-node : goal.invariant-loop-node
invariant-loop-node l = find (opens (bare l.book.book) l.version) (drop l.node-index l.nodes) ≡ find (opens (bare l.book.book) l.version) l.nodes
