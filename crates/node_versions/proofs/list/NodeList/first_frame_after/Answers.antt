use Rattle.std.proofs.Common.{sym, ap, ◌+◌, ◌∙◌, arith, drop}
use Rattle.node_versions.proofs.FirstFrame.{frames, frame_kept, frame_raised, frame_finished}
use Rattle.node_versions.proofs.KeptLemmas.{seen}
use Rattle.node_versions.proofs.Places.{has_at_place}
use Rattle.node_versions.proofs.list.NodeList.first_frame_after.Goals as goal

pub returns-then-self-place : goal.returns-then-self-place
returns-then-self-place c = λ t at.
    let k = seen c.args.self.now c.self.invariant c.self.view_is in
    k.frame ∙ sym (frame_kept c.args.self.now.entries t c.args.state.now (omega (arith, at, k.frame, c.if-self-place.true)))

pub returns-then-is_frame : goal.returns-then-is_frame
returns-then-is_frame c = λ t at.
    let k = seen c.args.self.now c.self.invariant c.self.view_is in
    let has = has_at_place c.args.self.now.entries t c.args.place at c.requires in
    at ∙ sym (frame_raised c.args.self.now.entries t c.args.state.now has (omega (arith, at, k.frame, c.if-self-place.false)) (sym c.is_frame.ensures ∙ c.if-is_frame.true))

pub returns-else-is_frame : goal.returns-else-is_frame
returns-else-is_frame c = λ t at.
    let k = seen c.args.self.now c.self.invariant c.self.view_is in
    let has = has_at_place c.args.self.now.entries t c.args.place at c.requires in
    let left = frame_finished c.args.self.now.entries t c.args.state.now has (omega (arith, at, k.frame, c.if-self-place.false)) (sym c.is_frame.ensures ∙ c.if-is_frame.false) in
    c.frame_from.ensures.place ∙ ap (λ n. n + 1 + frames (drop (n + 1) c.args.self.now.entries)) at ∙ sym left
