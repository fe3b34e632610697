use Rattle.std.proofs.Common.{sym, ap, ◌∙◌, ◌&&◌, Bool}
use Rattle.std.specs.Prelude.{is_none}
use Rattle.flow_model.specs.Machine.State.{executes}
use Rattle.step_rules.proofs.Deciding.{live-same}
use Rattle.step_rules.proofs.causes.why_not_ended.Goals as goal

pub returns-clause-exact : goal.returns-clause-exact
returns-clause-exact c = λ graph s fits.
    c.causes_are_exact.ensures.lawful graph s fits.lawful c.args.version (sym (live-same graph s c.args.book.now c.args.version fits) ∙ c.requires)
    ∙ ap is_none (sym (c.first_cause.ensures s fits.parts))

pub returns-clause-executing : goal.returns-clause-executing
returns-clause-executing c = λ graph s e.
    c.causes_are_exact.ensures.executing graph s c.args.version
    ∙ ap (λ (b : Bool). executes s c.args.version && b) (ap is_none (sym (c.first_cause.ensures s e)))
