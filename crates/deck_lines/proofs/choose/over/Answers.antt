use Rattle.std.proofs.Common.{ℕ, ◌≡◌, ◌≤◌, length, arith, subst}
use Rattle.std.specs.Prelude.{min, Some, Err}
use Rattle.script_tree.specs.declared.limits.TheConstants.{SELECTORS}
use Rattle.script_tree.specs.Scripts.{IsBody}
use Rattle.expr_script.specs.Pieces.{words_among}
use Rattle.expr_script.specs.Spelled.{SpellsBody}
use Rattle.deck_lines.specs.Scripts.{IsBodyRead}
use Rattle.deck_lines.proofs.Choosing.{body_fault}
use Rattle.deck_lines.proofs.choose.over.Goals as goal

pub returns-in-Ok-clause-read : goal.returns-in-Ok-clause-read
returns-in-Ok-clause-read c = λ done g.
    let words = words_among c.args.text.now c.args.pieces.now in
    let all : c.min-picks.result ≡ min (length done) SELECTORS = omega (arith, c.min-picks.ensures, g.count) in
    c.judge.ensures.read done (Some words) g (subst (λ (n : ℕ). SpellsBody n words c.in-Ok.body) all c.in-Ok.ensures.read)

pub returns-in-Ok-clause-kept : goal.returns-in-Ok-clause-kept
returns-in-Ok-clause-kept c = λ done g.
    let all : c.min-picks.result ≡ min (length done) SELECTORS = omega (arith, c.min-picks.ensures, g.count) in
    let some : 1 ≤ length done = omega (arith, g.count, c.requires.some) in
    c.judge.ensures.kept done g some (subst (λ (n : ℕ). IsBody n c.in-Ok.body) all c.in-Ok.ensures.body)

pub returns-in-Err-clause-read : goal.returns-in-Err-clause-read
returns-in-Err-clause-read c = λ done g.
    let words = words_among c.args.text.now c.args.pieces.now in
    let all : c.min-picks.result ≡ min (length done) SELECTORS = omega (arith, c.min-picks.ensures, g.count) in
    body_fault c.args.name done words c.args.selectors c.in-Err.fault g (subst (λ (n : ℕ). IsBodyRead n words (Err c.in-Err.fault)) all c.in-Err.ensures.read)
