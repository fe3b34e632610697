use Rattle.std.proofs.Common.{not, ◌&&◌, sym, ap, ◌∙◌}
use Rattle.std.proofs.lemmas.Bool.{and_from, not_from_false}
use Rattle.std.specs.Prelude.{is_none}
use Rattle.flow_model.specs.Machine.State.{is_framing, live, executes}
use Rattle.flow_model.specs.Machine.Steps.{is_framing_before, any_framing_before}
use Rattle.flow_model.specs.Parts.Books.{bare}
use Rattle.flow_model.proofs.Together.WhyNotEnded.{none-least}
use Rattle.step_rules.specs.Fronts.{wants_nothing}
use Rattle.step_rules.proofs.OpenNodes.{none_is}
use Rattle.step_rules.proofs.Truths.{second_decides}
use Rattle.step_rules.proofs.wanting.may_start.Goals as goal

pub returns : goal.returns
returns c =
    let b = c.args.book.now.book in
    let t = c.args.version in
    let framing = and_from (live (bare b) t) (not (executes (bare b) t)) c.requires (not_from_false (executes (bare b) t) (sym c.executes.ensures ∙ c.if-executes.false)) in
    second_decides (is_framing (bare b) t && wants_nothing c.args.book.now t) (not (any_framing_before (bare b) t)) c.is_none.result
    (and_from (is_framing (bare b) t) (wants_nothing c.args.book.now t) framing (sym c.wants_nothing.ensures ∙ c.if-not-wants_nothing.false))
    (none_is c.first_framing_before.result c.is_none.result c.is_none.ensures ∙ ap is_none c.first_framing_before.ensures ∙ none-least (is_framing_before (bare b) t) b.calls)
