use Rattle.std.proofs.Common.{◌∙◌, List, length, sym, ap, subst}
use Rattle.node_versions.specs.Entries.{Versions}
use Rattle.flow_model.specs.Machine.Steps.{allowed}
use Rattle.step_rules.specs.Sights.{list_at}
use Rattle.step_rules.specs.Fits as rules
use Rattle.interleave_core.specs.Whole.{Whole, state_of}
use Rattle.interleave_core.proofs.AsAsked.{some_whole, whole_of_lists}
use Rattle.interleave_core.proofs.core_state.Core.allowed.Goals as goal

pub allowed-requires : goal.allowed-requires
allowed-requires c =
    let m = c.self.inside in
    subst (λ (ls : List Versions). rules.IsWhole m.graph.now m.book (list_at ls) (length ls)) (sym c.as_slice.ensures.value)
    (some_whole m.graph.now m.book m.lists.items c.self.invariant)

pub returns : goal.returns
returns c =
    let m = c.self.inside in
    c.allowed.ensures.allowed (state_of m.book.book m.lists.items)
    (subst (λ (ls : List Versions). rules.IsWholeOf m.graph.now (state_of m.book.book m.lists.items) m.book (list_at ls) (length ls))
    (sym c.as_slice.ensures.value) (whole_of_lists m.graph.now m.book m.lists.items c.self.invariant))
    ∙ ap (λ (w : Whole). allowed w.graph w.state c.args.step) c.self.view_is
