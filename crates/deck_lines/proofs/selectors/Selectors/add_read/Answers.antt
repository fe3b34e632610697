use Rattle.std.proofs.Common.{false, subst}
use Rattle.deck_lines.specs.Scripts.{IsScriptRead}
use Rattle.deck_lines.proofs.selectors.Selectors.add_read.Goals as goal

pub returns-in_ok-add_script-in-Ok : goal.returns-in_ok-add_script-in-Ok
returns-in_ok-add_script-in-Ok c = λ form h same forms g. c.in_ok-add_script-in-Ok.ensures form forms (subst (IsScriptRead false form.0) c.in-Ok.is h) same g

pub returns-in-Err : goal.returns-in-Err
returns-in-Err c = λ form h same. c.add_fault.ensures form (subst (IsScriptRead false form.0) c.in-Err.is h) same
