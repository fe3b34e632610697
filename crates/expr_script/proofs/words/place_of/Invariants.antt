use Rattle.std.proofs.Common.{◌≡◌, ◌+◌, drop}
use Rattle.script_tree.specs.Names.{place_in}
use Rattle.expr_script.proofs.words.place_of.Given as goal

abbrev pub invariant-loop-at : goal.invariant-loop-at
invariant-loop-at l = place_in l.names l.name ≡ l.at + place_in (drop l.at l.names) l.name
