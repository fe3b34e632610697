use Rattle.std.proofs.Common.{◌∙◌, List, length, sym, ap, subst, arith}
use Rattle.node_versions.specs.Entries.{Versions}
use Rattle.flow_model.specs.Machine.State.{live}
use Rattle.flow_model.specs.Machine.Steps.{allowed}
use Rattle.flow_model.specs.Machine.Next.{next_at}
use Rattle.step_rules.specs.Sights.{list_at}
use Rattle.step_rules.specs.Fits as rules
use Rattle.interleave_core.specs.Whole.{Whole, state_of}
use Rattle.interleave_core.proofs.Fits.{all_nodes}
use Rattle.interleave_core.proofs.AsAsked.{some_whole, whole_of_lists}
use Rattle.interleave_core.proofs.core_state.Core.next_at.Goals as goal

pub next_at-requires-clause-whole : goal.next_at-requires-clause-whole
next_at-requires-clause-whole c =
    let m = c.self.inside in
    subst (λ (ls : List Versions). rules.IsWhole m.graph.now m.book (list_at ls) (length ls)) (sym c.as_slice.ensures.value)
    (some_whole m.graph.now m.book m.lists.items c.self.invariant)

pub next_at-requires-clause-node : goal.next_at-requires-clause-node
next_at-requires-clause-node c =
    let m = c.self.inside in
    let many = all_nodes m.graph.now m.book m.lists.items c.self.invariant in
    let seen = ap (λ (w : Whole). length w.graph.nodes) c.self.view_is in
    let sliced = ap (λ (ls : List Versions). length ls) c.as_slice.ensures.value in
    let node = c.requires.node in
    omega (arith, many, seen, sliced, node)

pub next_at-requires-clause-live : goal.next_at-requires-clause-live
next_at-requires-clause-live c = ap (λ (w : Whole). live w.state c.args.version) c.self.view_is ∙ c.requires.live

pub returns-clause-step : goal.returns-clause-step
returns-clause-step c =
    let m = c.self.inside in
    let s = state_of m.book.book m.lists.items in
    let turn = c.next_at.ensures.turn s
    (subst (λ (ls : List Versions). rules.IsWholeOf m.graph.now s m.book (list_at ls) (length ls))
    (sym c.as_slice.ensures.value) (whole_of_lists m.graph.now m.book m.lists.items c.self.invariant)) in
    let lives = ap (λ (w : Whole). live w.state c.args.version) c.self.view_is ∙ c.requires.live in
    λ step e. ap (λ (w : Whole). allowed w.graph w.state step) (sym c.self.view_is)
    ∙ c.next_at_is_allowed.ensures m.graph.now s c.self.invariant.lawful c.args.version c.args.node lives step (sym turn ∙ e)

pub returns-clause-turn : goal.returns-clause-turn
returns-clause-turn c =
    let m = c.self.inside in
    c.next_at.ensures.turn (state_of m.book.book m.lists.items)
    (subst (λ (ls : List Versions). rules.IsWholeOf m.graph.now (state_of m.book.book m.lists.items) m.book (list_at ls) (length ls))
    (sym c.as_slice.ensures.value) (whole_of_lists m.graph.now m.book m.lists.items c.self.invariant))
    ∙ ap (λ (w : Whole). next_at w.graph w.state c.args.version c.args.node) c.self.view_is
