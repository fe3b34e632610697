use Rattle.std.proofs.Common.{◌≡◌, ℕ, true, false, sym, ap, ◌∙◌, subst, arith}
use Rattle.std.specs.Option.{IsSome}
use Rattle.node_versions.specs.declared.entry.State.TheVariants.{Done}
use Rattle.node_versions.specs.Entries.{is_frame, at, before, last_done, value_before, with_state, with_entries}
use Rattle.node_versions.proofs.Indexes.{version_at_index}
use Rattle.node_versions.proofs.Places.{place-below}
use Rattle.flow_state.proofs.Fronts.{front-live, front-node, front-has, front-frame, front-done}
use Rattle.sweep.proofs.Skips.{skip-front, skip-makes, skip-none, skip-known}
use Rattle.sweep.proofs.skipping.skip.Goals as goal

pub value_before_at-value-requires-clause-in_list : goal.value_before_at-value-requires-clause-in_list
value_before_at-value-requires-clause-in_list c = omega (arith, c.index_of-own.ensures.place, place-below c.args.list.now.entries c.args.version (front-has c.args.graph.now c.requires.state c.args.book.now c.args.node c.args.list.now c.args.version (skip-front c.args.graph.now c.args.book.now c.args.node c.args.list.now c.args.version c.requires)))

pub value_before_at-value-requires-clause-done : goal.value_before_at-value-requires-clause-done
value_before_at-value-requires-clause-done c =
    let es = c.args.list.now.entries in
    let named = version_at_index es c.args.version c.index_of-own.result c.index_of-own.ensures.place (front-has c.args.graph.now c.requires.state c.args.book.now c.args.node c.args.list.now c.args.version (skip-front c.args.graph.now c.args.book.now c.args.node c.args.list.now c.args.version c.requires)) in
    subst (λ (t : ℕ). IsSome (last_done (before es t))) (sym named) (front-done c.args.graph.now c.requires.state c.args.book.now c.args.node c.args.list.now c.args.version (skip-front c.args.graph.now c.args.book.now c.args.node c.args.list.now c.args.version c.requires))

pub kept_picks-picks-requires-clause-entry : goal.kept_picks-picks-requires-clause-entry
kept_picks-picks-requires-clause-entry c = front-has c.args.graph.now c.requires.state c.args.book.now c.args.node c.args.list.now c.args.version (skip-front c.args.graph.now c.args.book.now c.args.node c.args.list.now c.args.version c.requires)

pub kept_picks-picks-requires-clause-done : goal.kept_picks-picks-requires-clause-done
kept_picks-picks-requires-clause-done c = front-done c.args.graph.now c.requires.state c.args.book.now c.args.node c.args.list.now c.args.version (skip-front c.args.graph.now c.args.book.now c.args.node c.args.list.now c.args.version c.requires)

pub kept_picks-picks-requires-clause-known : goal.kept_picks-picks-requires-clause-known
kept_picks-picks-requires-clause-known c = skip-known c.args.graph.now c.args.book.now c.args.node c.args.list.now c.args.version c.requires

pub kept_picks-picks-requires-clause-fit : goal.kept_picks-picks-requires-clause-fit
kept_picks-picks-requires-clause-fit c = skip-none c.args.graph.now c.args.book.now c.args.node c.args.list.now c.args.version c.requires

pub finish_at-requires-clause-in_list : goal.finish_at-requires-clause-in_list
finish_at-requires-clause-in_list c = omega (arith, c.index_of-own.ensures.place, place-below c.args.list.now.entries c.args.version (front-has c.args.graph.now c.requires.state c.args.book.now c.args.node c.args.list.now c.args.version (skip-front c.args.graph.now c.args.book.now c.args.node c.args.list.now c.args.version c.requires)))

pub finish_at-requires-clause-frame : goal.finish_at-requires-clause-frame
finish_at-requires-clause-frame c =
    let es = c.args.list.now.entries in
    let named = version_at_index es c.args.version c.index_of-own.result c.index_of-own.ensures.place (front-has c.args.graph.now c.requires.state c.args.book.now c.args.node c.args.list.now c.args.version (skip-front c.args.graph.now c.args.book.now c.args.node c.args.list.now c.args.version c.requires)) in
    subst (λ (t : ℕ). at is_frame es t ≡ true) (sym named) (front-frame c.args.graph.now c.requires.state c.args.book.now c.args.node c.args.list.now c.args.version (skip-front c.args.graph.now c.args.book.now c.args.node c.args.list.now c.args.version c.requires))

pub close-requires-clause-live : goal.close-requires-clause-live
close-requires-clause-live c = front-live c.args.graph.now c.requires.state c.args.book.now c.args.node c.args.list.now c.args.version (skip-front c.args.graph.now c.args.book.now c.args.node c.args.list.now c.args.version c.requires)

pub close-requires-clause-node : goal.close-requires-clause-node
close-requires-clause-node c = front-node c.args.graph.now c.requires.state c.args.book.now c.args.node c.args.list.now c.args.version (skip-front c.args.graph.now c.args.book.now c.args.node c.args.list.now c.args.version c.requires)

pub returns : goal.returns
returns c =
    let es = c.args.list.now.entries in
    let named = version_at_index es c.args.version c.index_of-own.result c.index_of-own.ensures.place (front-has c.args.graph.now c.requires.state c.args.book.now c.args.node c.args.list.now c.args.version (skip-front c.args.graph.now c.args.book.now c.args.node c.args.list.now c.args.version c.requires)) in
    let before = c.value_before_at-value.ensures ∙ ap (value_before es) named in
    let made = c.finish_at.ensures ∙ ap (λ (t : ℕ). with_entries c.args.list.now (with_state t (Done c.value_before_at-value.result false c.kept_picks-picks.result) es)) named in
    skip-makes c.args.graph.now c.args.book.now c.close.new.self c.args.node c.args.list.now c.finish_at.new.self c.args.version c.value_before_at-value.result c.kept_picks-picks.result before c.kept_picks-picks.ensures made c.close.ensures
