use Rattle.std.proofs.Common.{◌∙◌, List, length, sym, ap, subst}
use Rattle.node_versions.specs.Entries.{Versions}
use Rattle.flow_model.specs.Machine.State.{live}
use Rattle.flow_model.specs.Machine.Steps.{allowed}
use Rattle.flow_model.specs.Machine.Next.{next}
use Rattle.step_rules.specs.Sights.{list_at}
use Rattle.step_rules.specs.Fits as rules
use Rattle.interleave_core.specs.Whole.{Whole, state_of}
use Rattle.interleave_core.proofs.AsAsked.{some_whole, whole_of_lists}
use Rattle.interleave_core.proofs.core_state.Core.next.Goals as goal

pub next-requires-clause-whole : goal.next-requires-clause-whole
next-requires-clause-whole c =
    let m = c.self.inside in
    subst (λ (ls : List Versions). rules.IsWhole m.graph.now m.book (list_at ls) (length ls)) (sym c.as_slice.ensures.value)
    (some_whole m.graph.now m.book m.lists.items c.self.invariant)

pub next-requires-clause-live : goal.next-requires-clause-live
next-requires-clause-live c = ap (λ (w : Whole). live w.state c.args.version) c.self.view_is ∙ c.requires

pub returns-clause-step : goal.returns-clause-step
returns-clause-step c =
    let m = c.self.inside in
    let s = state_of m.book.book m.lists.items in
    let turn = c.next.ensures.turn s
    (subst (λ (ls : List Versions). rules.IsWholeOf m.graph.now s m.book (list_at ls) (length ls))
    (sym c.as_slice.ensures.value) (whole_of_lists m.graph.now m.book m.lists.items c.self.invariant)) in
    let lives = ap (λ (w : Whole). live w.state c.args.version) c.self.view_is ∙ c.requires in
    λ step e. ap (λ (w : Whole). allowed w.graph w.state step) (sym c.self.view_is)
    ∙ c.next_is_allowed.ensures m.graph.now c.self.invariant.is_graph s c.self.invariant.lawful c.args.version lives step (sym turn ∙ e)

pub returns-clause-turn : goal.returns-clause-turn
returns-clause-turn c =
    let m = c.self.inside in
    c.next.ensures.turn (state_of m.book.book m.lists.items)
    (subst (λ (ls : List Versions). rules.IsWholeOf m.graph.now (state_of m.book.book m.lists.items) m.book (list_at ls) (length ls))
    (sym c.as_slice.ensures.value) (whole_of_lists m.graph.now m.book m.lists.items c.self.invariant))
    ∙ ap (λ (w : Whole). next w.graph w.state c.args.version) c.self.view_is
