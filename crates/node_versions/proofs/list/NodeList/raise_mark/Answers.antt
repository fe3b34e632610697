use Rattle.std.proofs.Common.{◌≡◌, ℕ, true, not, arith, sym, ap, ◌∙◌, subst}
use Rattle.node_versions.specs.Entries.{Frame, is_done, at, with_state, with_entries}
use Rattle.node_versions.proofs.Indexes.{version_at_index}
use Rattle.node_versions.proofs.Places.{at-has, place-below, mark_no_done}
use Rattle.node_versions.proofs.list.NodeList.raise_mark.Goals as goal

pub set_state_at-requires-clause-in_list : goal.set_state_at-requires-clause-in_list
set_state_at-requires-clause-in_list c = omega (arith, c.index_of-own.ensures.place, place-below c.args.self.now.entries c.args.version (at-has _ c.args.self.now.entries c.args.version c.requires))

pub set_state_at-requires-clause-no_done : goal.set_state_at-requires-clause-no_done
set_state_at-requires-clause-no_done c =
    let es = c.args.self.now.entries in
    let named = version_at_index es c.args.version c.index_of-own.result c.index_of-own.ensures.place (at-has _ es c.args.version c.requires) in
    subst (λ (t : ℕ). at (λ s. not (is_done s)) es t ≡ true) (sym named) (mark_no_done es c.args.version c.requires)

pub returns : goal.returns
returns c =
    let es = c.args.self.now.entries in
    let named = version_at_index es c.args.version c.index_of-own.result c.index_of-own.ensures.place (at-has _ es c.args.version c.requires) in
    c.set_state_at.ensures ∙ ap (λ (t : ℕ). with_entries c.args.self.now (with_state t Frame es)) named
