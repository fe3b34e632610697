use Rattle.script_tree.specs.declared.limits.TheConstants.{LEVELS}
use Rattle.script_grammar.specs.Stacks.{state_of}
use Rattle.script_grammar.proofs.Depths.{ReadsTo}
use Rattle.script_grammar.proofs.reader.read_script.Given as goal

abbrev pub invariant-loop-index : goal.invariant-loop-index
invariant-loop-index l = ReadsTo LEVELS l.tokens l.index (state_of l.stack.begun.items l.top)
