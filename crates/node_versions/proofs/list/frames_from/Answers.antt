use Rattle.std.proofs.Common.{sym, ◌∙◌}
use Rattle.node_versions.proofs.FirstFrame.{frame_here, frame_further, frame_nowhere}
use Rattle.node_versions.proofs.list.frames_from.Goals as goal

pub returns-then-is_frame : goal.returns-then-is_frame
returns-then-is_frame c = frame_here c.args.entries.now c.loop-place.place c.index-entries-place.result c.loop-place.invariant c.loop-place-test.true c.index-entries-place.is (sym c.is_frame.ensures ∙ c.if-is_frame.true)

pub loop-place-preserved : goal.loop-place-preserved
loop-place-preserved c = frame_further c.args.entries.now c.loop-place.place c.index-entries-place.result c.loop-place.invariant c.loop-place-test.true c.index-entries-place.is (sym c.is_frame.ensures ∙ c.if-is_frame.false)

pub returns : goal.returns
returns c = frame_nowhere c.args.entries.now c.loop-place.place c.loop-place.invariant c.loop-place-test.false c.loop-place.auto.place-end
