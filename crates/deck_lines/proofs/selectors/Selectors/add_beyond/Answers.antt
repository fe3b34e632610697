use Rattle.std.proofs.Common.{false, subst}
use Rattle.std.specs.Prelude.{Err}
use Rattle.expr_script.specs.declared.atoms.Atoms.TheVariants.{Script}
use Rattle.deck_lines.specs.declared.fault.Limit.{Limit}
use Rattle.deck_lines.specs.declared.fault.LineFault.TheVariants.{TooMany}
use Rattle.deck_lines.specs.Scripts.{IsScriptRead}
use Rattle.deck_lines.proofs.Gathering.{many_unless_deep}
use Rattle.deck_lines.proofs.selectors.Selectors.add_beyond.Goals as goal

pub returns-in-Levels : goal.returns-in-Levels
returns-in-Levels c = λ form forms h same g. c.add_deep.ensures form forms (subst (λ (l : Limit). IsScriptRead false form.0 (Err (TooMany l))) c.in-Levels.is h) same g

pub returns-in_default : goal.returns-in_default
returns-in_default c = λ form forms h same g. c.add_many.ensures form forms (many_unless_deep (Script false, form.0) c.args.limit c.in_default.not-Levels h) same g
