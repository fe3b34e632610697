use Rattle.std.proofs.Common.{◌≡◌, map, take, length}
use Rattle.script_tree.specs.declared.limits.TheConstants.{SELECTORS}
use Rattle.signal_graph.specs.Values.{pick, selected, taken}
use Rattle.signal_graph.proofs.evaluate.choose.Given as goal

abbrev pub invariant-loop-index : goal.invariant-loop-index
invariant-loop-index l = (take l.index l.picked ≡ map (pick l.values) (take l.index l.selectors)) × (l.picks ≡ map (λ selector. taken (selected l.values selector)) (take l.index l.selectors)) × (length l.picked ≡ SELECTORS)
