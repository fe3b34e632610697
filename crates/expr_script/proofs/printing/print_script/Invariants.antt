use Rattle.std.proofs.Common.{◌≡◌, ◌++◌, drop, false}
use Rattle.expr_script.proofs.Written.{written}
use Rattle.expr_script.proofs.printing.print_script.Given as goal

abbrev pub invariant-loop-token : goal.invariant-loop-token
invariant-loop-token l = l.text ++ written l.names l.behind_word (drop l.token-index l.token-items) ≡ written l.names false l.token-items
