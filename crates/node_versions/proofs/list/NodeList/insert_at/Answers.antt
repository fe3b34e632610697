use Rattle.std.proofs.Common.{◌≡◌, ◌<◌, ◌≤◌, length, false, sym, subst, ap, ◌∙◌, arith, List}
use Rattle.std.specs.List.{insert}
use Rattle.node_versions.specs.Entries.{Versions, Entry, has, done_len}
use Rattle.node_versions.proofs.FirstFrame.{frames}
use Rattle.node_versions.proofs.KeptLemmas.{kept_inserted}
use Rattle.node_versions.proofs.list.NodeList.insert_at.Goals as goal

pub put_in-requires-clause-room : goal.put_in-requires-clause-room
put_in-requires-clause-room c =
    let fits = subst (λ (v : Versions). length v.entries < v.room) (sym c.self.view_is) c.requires.room in
    omega (arith, fits, c.self.invariant.reserved)

pub put_in-requires-clause-in_list : goal.put_in-requires-clause-in_list
put_in-requires-clause-in_list c = subst (λ (v : Versions). c.args.index ≤ length v.entries) (sym c.self.view_is) c.requires.in_list

pub invariant_of-self : goal.invariant_of-self
invariant_of-self c =
    let items = ap (λ (v : Versions). v.entries) c.self.view_is in
    kept_inserted _ c.args.index c.args.entry c.first_frame_with-first_frame.result c.done_end_with-done_end.result c.max-newest.result c.self.invariant
    (subst (λ (v : Versions). length v.entries < v.room) (sym c.self.view_is) c.requires.room)
    (subst (λ (v : Versions). c.args.index ≤ length v.entries) (sym c.self.view_is) c.requires.in_list)
    (subst (λ (v : Versions). has v.entries c.args.entry.version ≡ false) (sym c.self.view_is) c.requires.new_version)
    (c.first_frame_with-first_frame.ensures ∙ ap (λ (xs : List Entry). frames (insert xs c.args.index c.args.entry)) (sym items))
    (c.done_end_with-done_end.ensures ∙ ap (λ (xs : List Entry). done_len (insert xs c.args.index c.args.entry)) (sym items))
    c.put_in.ensures.items c.put_in.ensures.capacity c.max-newest.ensures
