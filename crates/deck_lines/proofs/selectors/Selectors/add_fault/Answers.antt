use Rattle.std.proofs.Common.{false, subst}
use Rattle.std.specs.Prelude.{Err}
use Rattle.deck_lines.specs.declared.fault.LineFault.{LineFault}
use Rattle.deck_lines.specs.Scripts.{IsScriptRead}
use Rattle.deck_lines.proofs.selectors.Selectors.add_fault.Goals as goal

pub returns-in-TooMany : goal.returns-in-TooMany
returns-in-TooMany c = λ form h same forms g. c.add_beyond.ensures form forms (subst (λ (f : LineFault). IsScriptRead false form.0 (Err f)) c.in-TooMany.is h) same g
