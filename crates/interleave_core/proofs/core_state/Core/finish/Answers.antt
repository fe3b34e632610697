use Rattle.std.proofs.Common.{List, ap, ◌∙◌, sym, map, subst}
use Rattle.signal_graph.specs.Legal.{finals}
use Rattle.node_versions.specs.Entries.{Versions}
use Rattle.flow_model.specs.Machine.Histories.{last_values}
use Rattle.interleave_core.specs.Whole.{Whole, state_of}
use Rattle.interleave_core.specs.Ending.{HaveLastValues, last_value}
use Rattle.interleave_core.proofs.Ends.{have_last_values, last_values_are}
use Rattle.interleave_core.proofs.core_state.Core.finish.Goals as goal

pub values_of-values-requires-clause-last : goal.values_of-values-requires-clause-last
values_of-values-requires-clause-last c =
    let m = c.self.inside in
    subst HaveLastValues (sym c.as_slice.ensures.value) (have_last_values m.graph.now m.book m.lists.items c.self.invariant)

pub returns-clause-values : goal.returns-clause-values
returns-clause-values c =
    let m = c.self.inside in
    c.from_vec.ensures ∙ c.values_of-values.ensures ∙ ap (λ (ls : List Versions). map last_value ls) c.as_slice.ensures.value
    ∙ last_values_are m.graph.now m.book m.lists.items c.self.invariant ∙ ap (λ (w : Whole). last_values w.state) c.self.view_is

pub returns-clause-finals : goal.returns-clause-finals
returns-clause-finals c =
    let m = c.self.inside in
    let none = ap (λ (w : Whole). w.state.calls) c.self.view_is ∙ c.requires in
    c.from_vec.ensures ∙ c.values_of-values.ensures ∙ ap (λ (ls : List Versions). map last_value ls) c.as_slice.ensures.value
    ∙ last_values_are m.graph.now m.book m.lists.items c.self.invariant
    ∙ c.last_values_are_final.ensures.lawful m.graph.now (state_of m.book.book m.lists.items) c.self.invariant.lawful none
    ∙ ap (λ (w : Whole). finals w.graph w.state.log) c.self.view_is
