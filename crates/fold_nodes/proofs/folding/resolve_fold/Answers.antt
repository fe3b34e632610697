use Rattle.std.proofs.Common.{◌≡◌, ℕ, true, not, sym, ap, ◌∙◌, subst, arith}
use Rattle.std.specs.Option.{IsSome}
use Rattle.node_versions.specs.declared.entry.State.TheVariants.{Done}
use Rattle.node_versions.specs.Entries.{is_frame, at, before, last_done, value_before, with_state, with_entries}
use Rattle.node_versions.proofs.Indexes.{version_at_index}
use Rattle.node_versions.proofs.Places.{place-below}
use Rattle.fold_nodes.proofs.Folds.{fold-has, fold-frame, fold-done, fold-makes}
use Rattle.fold_nodes.proofs.folding.resolve_fold.Goals as goal

pub value_before_at-requires-clause-in_list : goal.value_before_at-requires-clause-in_list
value_before_at-requires-clause-in_list c = omega (arith, c.index_of-own.ensures.place, place-below c.args.list.now.entries c.args.version (fold-has c.args.book.now c.args.node c.args.list.now c.args.version c.requires))

pub value_before_at-requires-clause-done : goal.value_before_at-requires-clause-done
value_before_at-requires-clause-done c =
    let es = c.args.list.now.entries in
    let named = version_at_index es c.args.version c.index_of-own.result c.index_of-own.ensures.place (fold-has c.args.book.now c.args.node c.args.list.now c.args.version c.requires) in
    subst (λ (t : ℕ). IsSome (last_done (before es t))) (sym named) (fold-done c.args.book.now c.args.node c.args.list.now c.args.version c.requires)

pub finish_at-requires-clause-in_list : goal.finish_at-requires-clause-in_list
finish_at-requires-clause-in_list c = omega (arith, c.index_of-own.ensures.place, place-below c.args.list.now.entries c.args.version (fold-has c.args.book.now c.args.node c.args.list.now c.args.version c.requires))

pub finish_at-requires-clause-frame : goal.finish_at-requires-clause-frame
finish_at-requires-clause-frame c =
    let es = c.args.list.now.entries in
    let named = version_at_index es c.args.version c.index_of-own.result c.index_of-own.ensures.place (fold-has c.args.book.now c.args.node c.args.list.now c.args.version c.requires) in
    subst (λ (t : ℕ). at is_frame es t ≡ true) (sym named) (fold-frame c.args.book.now c.args.node c.args.list.now c.args.version c.requires)

pub returns : goal.returns
returns c =
    let es = c.args.list.now.entries in
    let named = version_at_index es c.args.version c.index_of-own.result c.index_of-own.ensures.place (fold-has c.args.book.now c.args.node c.args.list.now c.args.version c.requires) in
    let before = c.value_before_at.ensures ∙ ap (value_before es) named in
    let made = c.finish_at.ensures ∙ ap (λ (t : ℕ). with_entries c.args.list.now (with_state t (Done c.given_value-value.result (not c.is_same-same.result) c.new.result) es)) named in
    fold-makes c.args.book.now c.close.new.self c.clear.new.self c.args.node c.args.list.now c.finish_at.new.self c.args.version c.given_value-value.result c.value_before_at.result c.is_same-same.result c.new.result
    c.given_value-value.ensures before c.is_same-same.ensures c.new.ensures made c.close.ensures c.clear.ensures
