use Rattle.std.proofs.Common.{List, ap, ◌∙◌, sym, subst, arith}
use Rattle.std.specs.Option.{IsSome}
use Rattle.node_versions.specs.declared.entry.Entry.{Entry}
use Rattle.node_versions.specs.Entries.{last_done, state_of, value_of}
use Rattle.interleave_core.proofs.Ends.{last_is, some_length}
use Rattle.interleave_core.proofs.ending.value_of.Goals as goal

pub value_for-requires-clause-entry : goal.value_for-requires-clause-entry
value_for-requires-clause-entry c =
    let some = some_length c.args.list.now.entries c.requires.done in
    let len = c.len.ensures in
    (last_is c.args.list.now.entries _ c.get-last.result.now c.requires.unique (omega (arith, some, len)) c.get-last.ensures).has_entry

pub value_for-requires-clause-done : goal.value_for-requires-clause-done
value_for-requires-clause-done c =
    let some = some_length c.args.list.now.entries c.requires.done in
    let len = c.len.ensures in
    subst (λ (es : List Entry). IsSome (last_done es)) (sym (last_is c.args.list.now.entries _ c.get-last.result.now c.requires.unique (omega (arith, some, len)) c.get-last.ensures).all) c.requires.done

pub returns : goal.returns
returns c =
    let some = some_length c.args.list.now.entries c.requires.done in
    let len = c.len.ensures in
    c.value_for.ensures
    ∙ ap (λ (es : List Entry). value_of (state_of (last_done es))) (last_is c.args.list.now.entries _ c.get-last.result.now c.requires.unique (omega (arith, some, len)) c.get-last.ensures).all
