use Rattle.std.proofs.Common.{length, refl, ap, arith}
use Rattle.script_grammar.specs.Grammar.{tokens}
use Rattle.script_grammar.specs.Canonical.{canonical}
use Rattle.script_grammar.proofs.Printing.{canonical_tree, canonical_script, shortest}
use Rattle.script_grammar.proofs.Shallow.{canonical_shallow}
use Rattle.script_grammar.proofs.laws.canonical_spells.Goals as goal

pub returns-clause-spells : goal.returns-clause-spells
returns-clause-spells c = λ t. record { written = canonical t; grammar = canonical_script t; same = refl; tree_is = canonical_tree t }

pub returns-clause-shortest : goal.returns-clause-shortest
returns-clause-shortest c = λ text t h.
    omega (arith, shortest h.written h.grammar, ap length h.same, ap (λ u. length (tokens (canonical u))) h.tree_is)

pub returns-clause-shallowest : goal.returns-clause-shallowest
returns-clause-shallowest c = canonical_shallow
