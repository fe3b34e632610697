use Rattle.std.proofs.Common.{[], ◌++◌, pos, false, ap, ◌∙◌}
use Rattle.script_grammar.specs.declared.token.Word.TheVariants.{Digits}
use Rattle.script_grammar.specs.declared.token.Token.TheVariants.{Plain}
use Rattle.script_grammar.specs.Grammar.{tokens}
use Rattle.script_grammar.specs.Canonical.{canonical}
use Rattle.expr_script.proofs.Written.{written, written_step, written_end, written_joined}
use Rattle.expr_script.proofs.printing.print_script.Goals as goal

pub loop-token-init : goal.loop-token-init
loop-token-init c = ap (λ text. text ++ written c.inputs-names.result.now false c.deref-token-items.result.now) c.new-text.ensures

pub loop-token-preserved : goal.loop-token-preserved
loop-token-preserved c =
    written_step c.loop-token.text c.push_spaced.new.out (written c.inputs-names.result.now false c.deref-token-items.result.now) c.inputs-names.result.now c.loop-token.behind_word c.token_begins-behind_word.result
    c.deref-token-items.result.now c.loop-token.token-index (Plain (Digits (pos 0))) c.loop-token-test.true c.loop-token.invariant c.in_ok-push_spaced.ensures c.token_begins-behind_word.ensures

pub returns : goal.returns
returns c =
    written_end c.loop-token.text (written c.inputs-names.result.now false c.deref-token-items.result.now) c.inputs-names.result.now c.loop-token.behind_word c.deref-token-items.result.now c.loop-token.token-index c.loop-token-test.false c.loop-token.invariant
    ∙ ap (λ names. written names false c.deref-token-items.result.now) c.inputs-names.ensures.names
    ∙ ap (written c.args.script.now.names false) (c.deref-token-items.ensures.value ∙ c.in_ok-tokens.ensures ∙ ap (λ tree. tokens (canonical tree)) c.tree.ensures)
    ∙ written_joined c.args.script.now.names (tokens (canonical c.args.script.now.tree)) []
