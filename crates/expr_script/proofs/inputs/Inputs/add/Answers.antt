use Rattle.std.proofs.Common.{List, [], ◌∷◌, ◌++◌, ℕ, sym, ap, ◌∙◌, subst, arith}
use Rattle.script_tree.specs.declared.limits.TheConstants.{INPUTS}
use Rattle.script_tree.specs.Names.{place_in}
use Rattle.expr_script.specs.Inputs.{KeepsFirst}
use Rattle.expr_script.specs.Tokens.{with_name}
use Rattle.expr_script.proofs.Kept.{keeps_known, keeps_new, keeps_more}
use Rattle.expr_script.proofs.inputs.Inputs.add.Goals as goal

pub returns-then-place_of-len : goal.returns-then-place_of-len
returns-then-place_of-len c = λ all k.
    keeps_known c.args.word.now k
    (omega (arith, c.place_of.ensures.place, ap (place_in c.args.self.now.names) c.in-Some.ensures.some.0))

pub returns-in_ok-push : goal.returns-in_ok-push
returns-in_ok-push c = λ all k.
    subst (λ (kept : List (List ℕ)). KeepsFirst INPUTS kept c.args.self.now.more (with_name all c.args.word.now))
    (sym (c.in_ok-push.ensures.ok ∙ ap (λ name. c.args.self.now.names ++ name ∷ []) c.in-Some.ensures.some.0))
    (keeps_new c.args.word.now k c.in-Some.ensures.some.1
    (omega (arith, c.place_of.ensures.place, ap (place_in c.args.self.now.names) c.in-Some.ensures.some.0))
    (omega arith))

pub returns-else-len-lt-INPUTS : goal.returns-else-len-lt-INPUTS
returns-else-len-lt-INPUTS c = λ all k.
    keeps_more c.args.word.now k c.in-Some.ensures.some.1
    (omega (arith, c.place_of.ensures.place, ap (place_in c.args.self.now.names) c.in-Some.ensures.some.0))
    (omega arith)
