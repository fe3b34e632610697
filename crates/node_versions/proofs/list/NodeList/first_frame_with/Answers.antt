use Rattle.std.proofs.Common.{sym, ◌∙◌, arith}
use Rattle.node_versions.proofs.FirstFrame.{frame_before, frame_inserted, frame_shifted}
use Rattle.node_versions.proofs.KeptLemmas.{seen}
use Rattle.node_versions.proofs.list.NodeList.first_frame_with.Goals as goal

pub overflow_add-result : goal.overflow_add-result
overflow_add-result c =
    let k = seen c.args.self.now c.self.invariant c.self.view_is in
    omega (arith, k.frame_fits, k.small, c.requires.room)

pub returns-then-self-index : goal.returns-then-self-index
returns-then-self-index c =
    let k = seen c.args.self.now c.self.invariant c.self.view_is in
    k.frame ∙ sym (frame_before c.args.self.now.entries c.args.index c.args.entry.now (omega (arith, k.frame, c.if-self-index.true)) c.requires.in_list)

pub returns-then-is_frame : goal.returns-then-is_frame
returns-then-is_frame c =
    let k = seen c.args.self.now c.self.invariant c.self.view_is in
    sym (frame_inserted c.args.self.now.entries c.args.index c.args.entry.now (omega (arith, k.frame, c.if-self-index.false)) (sym c.is_frame.ensures ∙ c.if-is_frame.true))

pub returns-else-is_frame : goal.returns-else-is_frame
returns-else-is_frame c =
    let k = seen c.args.self.now c.self.invariant c.self.view_is in
    let more = frame_shifted c.args.self.now.entries c.args.index c.args.entry.now (omega (arith, k.frame, c.if-self-index.false)) (sym c.is_frame.ensures ∙ c.if-is_frame.false) in
    omega (arith, k.frame, more)
