use Rattle.std.proofs.Common.{◌≡◌, ℕ, true, not, sym, ap, ◌∙◌, subst, arith}
use Rattle.std.specs.Option.{IsSome}
use Rattle.node_versions.specs.declared.entry.State.TheVariants.{Done}
use Rattle.node_versions.specs.Entries.{is_frame, at, before, last_done, value_before, with_state, with_entries}
use Rattle.node_versions.proofs.Indexes.{version_at_index}
use Rattle.node_versions.proofs.Places.{place-below}
use Rattle.flow_state.proofs.Fronts.{front-has, front-frame, front-done}
use Rattle.flow_state.proofs.Resolved.{resolve-front}
use Rattle.sweep.proofs.Resolves.{resolve-makes}
use Rattle.sweep.proofs.resolving.resolve.Goals as goal

pub value_before_at-requires-clause-in_list : goal.value_before_at-requires-clause-in_list
value_before_at-requires-clause-in_list c = omega (arith, c.index_of-own.ensures.place, place-below c.args.list.now.entries c.args.version (front-has c.args.graph.now c.requires.state c.args.book.now c.args.node c.args.list.now c.args.version (resolve-front c.args.graph.now c.args.book.now c.args.node c.args.list.now c.args.version c.requires)))

pub value_before_at-requires-clause-done : goal.value_before_at-requires-clause-done
value_before_at-requires-clause-done c =
    let es = c.args.list.now.entries in
    let named = version_at_index es c.args.version c.index_of-own.result c.index_of-own.ensures.place (front-has c.args.graph.now c.requires.state c.args.book.now c.args.node c.args.list.now c.args.version (resolve-front c.args.graph.now c.args.book.now c.args.node c.args.list.now c.args.version c.requires)) in
    subst (λ (t : ℕ). IsSome (last_done (before es t))) (sym named) (front-done c.args.graph.now c.requires.state c.args.book.now c.args.node c.args.list.now c.args.version (resolve-front c.args.graph.now c.args.book.now c.args.node c.args.list.now c.args.version c.requires))

pub finish_at-requires-clause-in_list : goal.finish_at-requires-clause-in_list
finish_at-requires-clause-in_list c = omega (arith, c.index_of-own.ensures.place, place-below c.args.list.now.entries c.args.version (front-has c.args.graph.now c.requires.state c.args.book.now c.args.node c.args.list.now c.args.version (resolve-front c.args.graph.now c.args.book.now c.args.node c.args.list.now c.args.version c.requires)))

pub finish_at-requires-clause-frame : goal.finish_at-requires-clause-frame
finish_at-requires-clause-frame c =
    let es = c.args.list.now.entries in
    let named = version_at_index es c.args.version c.index_of-own.result c.index_of-own.ensures.place (front-has c.args.graph.now c.requires.state c.args.book.now c.args.node c.args.list.now c.args.version (resolve-front c.args.graph.now c.args.book.now c.args.node c.args.list.now c.args.version c.requires)) in
    subst (λ (t : ℕ). at is_frame es t ≡ true) (sym named) (front-frame c.args.graph.now c.requires.state c.args.book.now c.args.node c.args.list.now c.args.version (resolve-front c.args.graph.now c.args.book.now c.args.node c.args.list.now c.args.version c.requires))

pub returns : goal.returns
returns c =
    let es = c.args.list.now.entries in
    let named = version_at_index es c.args.version c.index_of-own.result c.index_of-own.ensures.place (front-has c.args.graph.now c.requires.state c.args.book.now c.args.node c.args.list.now c.args.version (resolve-front c.args.graph.now c.args.book.now c.args.node c.args.list.now c.args.version c.requires)) in
    let before = c.value_before_at.ensures ∙ ap (value_before es) named in
    let made = c.finish_at.ensures ∙ ap (λ (t : ℕ). with_entries c.args.list.now (with_state t (Done c.new_value-value.result (not c.is_same-changed.result) c.found_picks-picks.result) es)) named in
    resolve-makes c.args.graph.now c.args.book.now c.close.new.self c.clear.new.self c.args.node c.args.list.now c.finish_at.new.self c.args.version c.new_value-value.result c.value_before_at.result c.is_same-changed.result c.found_picks-picks.result
    c.new_value-value.ensures before c.is_same-changed.ensures c.found_picks-picks.ensures.kept made c.close.ensures c.clear.ensures
