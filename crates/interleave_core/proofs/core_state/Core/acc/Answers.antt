use Rattle.std.proofs.Common.{refl, sym, ap, ◌∙◌, subst, arith}
use Rattle.std.specs.Bool.{IsTrue}
use Rattle.std.specs.Option.{IsSome}
use Rattle.node_versions.specs.Entries.{Versions, has, before, last_done, value_before}
use Rattle.flow_model.specs.Machine.State.{entries}
use Rattle.interleave_core.specs.Whole.{Whole, state_of}
use Rattle.interleave_core.proofs.Fits.{list_fits}
use Rattle.interleave_core.proofs.Evaluations.{due_here, due_below, due-entry, due-done}
use Rattle.interleave_core.proofs.core_state.Core.acc.Goals as goal

pub index-requires : goal.index-requires
index-requires c =
    let due = due_here c.args.version c.args.node c.self.invariant c.self.view_is c.requires in
    let below = due_below c.args.version c.args.node c.self.invariant due in
    omega (arith, below)

pub fold_acc-requires-clause-entry : goal.fold_acc-requires-clause-entry
fold_acc-requires-clause-entry c =
    let due = due_here c.args.version c.args.node c.self.invariant c.self.view_is c.requires in
    let m = c.self.inside in
    let below = due_below c.args.version c.args.node c.self.invariant due in
    let list = list_fits m.graph.now m.book m.lists.items c.args.node c.index.result.now c.self.invariant below c.index.ensures in
    let entry = due-entry m.graph.now (state_of m.book.book m.lists.items) c.self.invariant.lawful c.args.version c.args.node due in
    subst IsTrue (sym (ap (λ (v : Versions). has v.entries c.args.version) list ∙ entry)) refl

pub fold_acc-requires-clause-done : goal.fold_acc-requires-clause-done
fold_acc-requires-clause-done c =
    let due = due_here c.args.version c.args.node c.self.invariant c.self.view_is c.requires in
    let m = c.self.inside in
    let below = due_below c.args.version c.args.node c.self.invariant due in
    let list = list_fits m.graph.now m.book m.lists.items c.args.node c.index.result.now c.self.invariant below c.index.ensures in
    let done = due-done m.graph.now (state_of m.book.book m.lists.items) c.self.invariant.lawful c.args.version c.args.node due in
    subst (λ (v : Versions). IsSome (last_done (before v.entries c.args.version))) (sym list) done

pub returns-in-Fold : goal.returns-in-Fold
returns-in-Fold c fold =
    let due = due_here c.args.version c.args.node c.self.invariant c.self.view_is c.requires in
    let m = c.self.inside in
    let below = due_below c.args.version c.args.node c.self.invariant due in
    let list = list_fits m.graph.now m.book m.lists.items c.args.node c.index.result.now c.self.invariant below c.index.ensures in
    c.fold_acc.ensures ∙ ap (λ (v : Versions). value_before v.entries c.args.version) list
    ∙ ap (λ (w : Whole). value_before (entries w.state c.args.node) c.args.version) c.self.view_is
