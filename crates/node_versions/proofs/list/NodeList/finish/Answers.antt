use Rattle.std.proofs.Common.{◌≡◌, ℕ, true, arith, sym, ap, ◌∙◌, subst}
use Rattle.node_versions.specs.Entries.{Done, is_frame, at, with_state, with_entries}
use Rattle.node_versions.proofs.Indexes.{version_at_index}
use Rattle.node_versions.proofs.Places.{at-has, place-below}
use Rattle.node_versions.proofs.list.NodeList.finish.Goals as goal

pub finish_at-requires-clause-in_list : goal.finish_at-requires-clause-in_list
finish_at-requires-clause-in_list c = omega (arith, c.index_of-own.ensures.place, place-below c.args.self.now.entries c.args.version (at-has _ c.args.self.now.entries c.args.version c.requires))

pub finish_at-requires-clause-frame : goal.finish_at-requires-clause-frame
finish_at-requires-clause-frame c =
    let es = c.args.self.now.entries in
    let named = version_at_index es c.args.version c.index_of-own.result c.index_of-own.ensures.place (at-has _ es c.args.version c.requires) in
    subst (λ (t : ℕ). at is_frame es t ≡ true) (sym named) c.requires

pub returns : goal.returns
returns c =
    let es = c.args.self.now.entries in
    let named = version_at_index es c.args.version c.index_of-own.result c.index_of-own.ensures.place (at-has _ es c.args.version c.requires) in
    c.finish_at.ensures ∙ ap (λ (t : ℕ). with_entries c.args.self.now (with_state t (Done c.args.value c.args.changed c.args.picks) es)) named
