use Rattle.std.proofs.Common.{sym, ap, ◌∙◌, refl, List}
use Rattle.node_versions.specs.Entries.{Versions, Entry, with_state, done_len, version_at}
use Rattle.node_versions.proofs.FirstFrame.{frames}
use Rattle.node_versions.proofs.Indexes.{index_of_version, has_version_at}
use Rattle.node_versions.proofs.Places.{seen_stated, replaced_entries}
use Rattle.node_versions.proofs.KeptLemmas.{seen, kept_stated}
use Rattle.node_versions.proofs.list.NodeList.set_state_at.Goals as goal

pub invariant_of-self-2 : goal.invariant_of-self-2
invariant_of-self-2 c =
    let es = c.args.self.now.entries in
    let t = version_at es c.args.own in
    let at = index_of_version es c.args.own (seen c.args.self.now c.self.invariant c.self.view_is).unique c.requires.in_list in
    let has = has_version_at es c.args.own c.requires.in_list in
    let items = ap (λ (v : Versions). v.entries) c.self.view_is in
    let changed = seen_stated _ c.args.self.now c.self.view_is t c.args.own c.in-Some.entry.now c.args.state at has c.in-Some.ensures.value in
    let frame = c.first_frame_after-first_frame.ensures t at in
    let done = c.done_end_after-done_end.ensures t at c.requires.no_done in
    kept_stated _ t c.args.state c.first_frame_after-first_frame.result c.done_end_after-done_end.result c.self.invariant
    (frame ∙ ap (λ (xs : List Entry). frames (with_state t c.args.state xs)) (sym items))
    (done ∙ ap (λ (xs : List Entry). done_len (with_state t c.args.state xs)) (sym items))
    changed refl

pub returns : goal.returns
returns c =
    let es = c.args.self.now.entries in
    let t = version_at es c.args.own in
    let at = index_of_version es c.args.own (seen c.args.self.now c.self.invariant c.self.view_is).unique c.requires.in_list in
    let has = has_version_at es c.args.own c.requires.in_list in
    let changed = seen_stated _ c.args.self.now c.self.view_is t c.args.own c.in-Some.entry.now c.args.state at has c.in-Some.ensures.value in
    replaced_entries _ c.args.self.now c.self.view_is _ (with_state t c.args.state) changed
