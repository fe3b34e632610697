use Rattle.std.proofs.Common.{◌-◌, ◌+◌, ◌≤◌, List, length, min, drop, ap, sym, ◌∙◌, subst, arith}
use Rattle.node_versions.specs.Entries.{Entry, Versions, done_len}
use Rattle.node_versions.proofs.Collecting.{IsLastDoneOf, last_done_of, none_found, seen_cut}
use Rattle.node_versions.proofs.DoneLen.{done_collected}
use Rattle.node_versions.proofs.FirstFrame.{frames, frame_collected}
use Rattle.node_versions.proofs.KeptLemmas.{kept_cut}
use Rattle.node_versions.proofs.list.NodeList.collect.Given as given
use Rattle.node_versions.proofs.list.NodeList.collect.Goals as goal

pub returns-in_default-clause-list : goal.returns-in_default-clause-list
returns-in_default-clause-list g c = λ test tells ended.
    absurd (none_found test c.args.self.now.entries c.ended_len-count.result ended (c.ended_len-count.ensures.place test tells) (sym c.done_part.ensures.last ∙ c.in_default.ensures.none))

kept_done : (g : given.Over) (c : goal.After-drop-ended-2 g) → IsLastDoneOf c.self.inside.entries.items c.ended_len-count.result c.in-Some.kept
kept_done g c =
    let count = c.ended_len-count.result in
    let items = ap (λ (v : Versions). v.entries) c.self.view_is in
    let found = c.in-Some.ensures.some in
    subst (λ (xs : List Entry). IsLastDoneOf xs count c.in-Some.kept) (sym items)
    (last_done_of c.args.self.now.entries c.done_part.result.now count (min count (done_len c.args.self.now.entries)) c.in-Some.kept (omega arith) c.done_part.ensures.part c.done_part.ensures.last found.0 found.1)

pub invariant_of-self : goal.invariant_of-self
invariant_of-self g c =
    let count = c.ended_len-count.result in
    let items = c.self.inside.entries.items in
    let k = kept_done g c in
    let seen_items = ap (λ (v : Versions). v.entries) c.self.view_is in
    let bound = subst (λ (v : Versions). count ≤ length v.entries) (sym c.self.view_is) c.ended_len-count.ensures.bound in
    let from = c.frame_from.ensures.place ∙ ap (λ (xs : List Entry). count + frames (drop count xs)) (sym seen_items) in
    let done = ap (λ n. n + 1) (c.saturating_sub-done_end.ensures ∙ ap (λ n. n - count) c.self.invariant.done) in
    kept_cut _ c.in-Some.kept count k.entry (c.frame_from.result - count + 1) (c.saturating_sub-done_end.result + 1) c.self.invariant k.below bound k.at k.done
    (frame_collected items count c.frame_from.result k.entry k.done from) (done ∙ sym (done_collected items count k.entry k.done))
    c.keep_one.ensures.items c.keep_one.ensures.capacity

pub returns-clause-list : goal.returns-clause-list
returns-clause-list g c = λ test tells ended.
    seen_cut _ c.args.self.now c.self.view_is test c.ended_len-count.result c.in-Some.kept ended (c.ended_len-count.ensures.place test tells) (kept_done g c).found _ c.keep_one.ensures.items
