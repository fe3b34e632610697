use Rattle.std.proofs.Common.{true, not, ◌&&◌, sym, ap, ◌∙◌}
use Rattle.std.proofs.lemmas.Bool.{and_from}
use Rattle.std.specs.Prelude.{is_none, is_some}
use Rattle.order_graph.specs.Order.{is_recorded}
use Rattle.flow_model.specs.Machine.State.{LiveCall}
use Rattle.flow_model.specs.Machine.Words.{is_idle, next_look}
use Rattle.flow_model.specs.Machine.Steps.{any_before}
use Rattle.flow_model.specs.Parts.Books.{bare}
use Rattle.flow_model.proofs.Together.WhyNotEnded.{none-least}
use Rattle.step_rules.proofs.OpenNodes.{none_is}
use Rattle.step_rules.proofs.Truths.{second_decides}
use Rattle.step_rules.proofs.ending.may_end.Goals as goal

pub returns : goal.returns
returns c =
    let b = c.args.book.now.book in
    let t = c.args.version in
    let none = sym (none_is (next_look (bare b) t) true (ap is_some (sym c.next_look.ensures) ∙ sym c.is_some.ensures ∙ c.if-is_some.false)) in
    second_decides (is_idle (bare b) t && is_none (next_look (bare b) t)) (not (any_before (bare b) t)) c.is_none.result
    (and_from (is_idle (bare b) t) (is_none (next_look (bare b) t)) (sym c.is_idle.ensures ∙ c.if-not-is_idle.false) none)
    (none_is c.first_before.result c.is_none.result c.is_none.ensures ∙ ap is_none c.first_before.ensures ∙ none-least (λ (c : LiveCall). is_recorded b.pairs c.version t) b.calls)
